use Rattle.std.proofs.Common.{◌≡◌, ◌≤◌, ℕ, ◌+◌, ◌-◌, ◌*◌, List, length, ap, sym, subst, ◌∙◌, arith}
use Rattle.std.specs.Simd.Lanes.{chunk}
use Rattle.wf_pixel.specs.declared.Size.{Size}
use Rattle.wf_kernel.proofs.Level.{image_row, rows_room}
use Rattle.wf_kernel.proofs.runs.rows_part.Goals as goal

pub slice_bounds-result-end : goal.slice_bounds-result-end
slice_bounds-result-end c =
    let image = c.args.image.now in
    let all = ap (λ (l : List ℕ). length l) (sym c.bytes.ensures.value) ∙ c.bytes.ensures.len in
    let room = rows_room image c.args.y c.args.n c.requires.colours all c.requires.rows in
    let same : image.size.w ≡ c.size-width.result.w = ap (λ (s : Size). s.w) (sym c.size-width.ensures.size) in
    subst (λ (w : ℕ). 4 * (c.args.y * w) + 4 * (c.args.n * w) ≤ length c.bytes.result.now) same
    (subst (λ (l : List ℕ). 4 * (c.args.y * image.size.w) + 4 * (c.args.n * image.size.w) ≤ length l) (sym c.bytes.ensures.value) room)

pub returns-clause-rows : goal.returns-clause-rows
returns-clause-rows c k low =
    let image = c.args.image.now in
    let w : ℕ = c.size-width.result.w in
    let n : ℕ = c.args.n in
    let at : ℕ = 4 * (c.args.y * w) in
    let count : ℕ = at + 4 * (n * w) - at in
    let at_is : at ≡ 4 * (c.args.y * image.size.w) = ap (λ (s : Size). 4 * (c.args.y * s.w)) c.size-width.ensures.size in
    let many : count ≡ 4 * (n * w) = omega arith in
    ap (λ (bytes : List ℕ). chunk (k * (4 * image.size.w)) (4 * image.size.w) (chunk at count bytes)) c.bytes.ensures.value
    ∙ image_row image c.args.y n k at count c.requires.colours
    (ap (λ (l : List ℕ). length l) (sym c.bytes.ensures.value) ∙ c.bytes.ensures.len) c.requires.rows low at_is
    (many ∙ ap (λ (s : Size). 4 * (n * s.w)) c.size-width.ensures.size)
