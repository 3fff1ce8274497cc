use Rattle.std.proofs.Common.{◌≡◌, ℕ, ◌+◌, ◌-◌, ◌*◌, ◌++◌, List, take, drop, ap, subst, ◌∙◌, arith}
use Rattle.std.specs.Prelude.{Option}
use Rattle.std.specs.Simd.Lanes.{chunk}
use Rattle.std.proofs.lemmas.List.{drop-drop}
use Rattle.wf_pixel.specs.declared.Rgba.{Rgba}
use Rattle.wf_kernel.specs.Bound.{Bound, bound_texel, layer_at}
use Rattle.wf_kernel.specs.Laid.{laid, IsStretch, IsStretchIn}
use Rattle.wf_kernel.proofs.Kept.{layer_is}
use Rattle.wf_kernel.proofs.Laid.{laid_same, nothing_laid, part_laid}
use Rattle.wf_kernel.proofs.laying.lay_row.Goals as goal

pub returns-in_default-clause-row : goal.returns-in_default-clause-row
returns-in_default-clause-row c =
    let same = layer_is c.args.layers.now c.args.i c.index-layers-i.result c.requires.layer c.index-layers-i.is in
    nothing_laid c.args.width (λ x. bound_texel c.index-layers-i.result (c.args.first + x) c.args.y) c.args.row.now
    c.requires.count c.in_default.ensures.none
    ∙ ap (λ (b : Bound). laid c.args.width (λ x. bound_texel b (c.args.first + x) c.args.y) c.args.row.now) same

pub lay_stretch-requires-clause-stretch : goal.lay_stretch-requires-clause-stretch
lay_stretch-requires-clause-stretch c =
    let same = layer_is c.args.layers.now c.args.i c.index-layers-i.result c.requires.layer c.index-layers-i.is in
    subst (λ (b : Bound). IsStretch b c.in-Some.stretch) same c.in-Some.ensures.some.stretch

pub returns-in-Some-clause-row : goal.returns-in-Some-clause-row
returns-in-Some-clause-row c =
    let b : Bound = layer_at c.args.layers.now c.args.i in
    let same = layer_is c.args.layers.now c.args.i c.index-layers-i.result c.requires.layer c.index-layers-i.is in
    let s = c.in-Some.stretch in
    let row : List ℕ = c.args.row.now in
    let is = subst (λ (b : Bound). IsStretchIn b c.args.first c.args.width c.args.y s) same c.in-Some.ensures.some in
    let start = is.start in
    let end = is.end in
    let a : ℕ = s.x - c.args.first in
    let piece : List ℕ = c.lay_stretch.new.part in
    let texel : ℕ → Option Rgba = λ x. bound_texel b (c.args.first + x) c.args.y in
    let count : 4 * a + 4 * s.len - 4 * a ≡ 4 * s.len = omega arith in
    let stop : 4 * a + 4 * s.len ≡ 4 * (a + s.len) = omega arith in
    let piece_is : piece ≡ laid s.len (λ i. texel (a + i)) (chunk (4 * a) (4 * s.len) row) =
    c.lay_stretch.ensures.part
    ∙ ap (λ (k : ℕ). laid s.len (λ i. bound_texel b (s.x + i) s.y) (chunk (4 * a) k row)) count
    ∙ laid_same s.len (λ i. bound_texel b (s.x + i) s.y) (λ i. texel (a + i)) (chunk (4 * a) (4 * s.len) row)
    (λ i low. let at : s.x + i ≡ c.args.first + (a + i) = omega arith in λ j. bound_texel b (at j) (is.row j)) in
    ap (λ (k : ℕ). take (4 * a) row ++ (piece ++ drop k (drop (4 * a) row))) count
    ∙ ap (λ (l : List ℕ). take (4 * a) row ++ (piece ++ l)) (drop-drop (4 * s.len) (4 * a) row)
    ∙ ap (λ (k : ℕ). take (4 * a) row ++ (piece ++ drop k row)) stop
    ∙ part_laid c.args.width a s.len texel row piece (omega arith) c.requires.count (λ x low. is.before x (omega arith))
    (λ x high low. is.behind x (omega arith) low) piece_is
