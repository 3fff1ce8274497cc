use Rattle.std.proofs.Common.{◌≡◌, ◌+◌, ap, ◌∙◌}
use Rattle.std.specs.Option.{option_copied}
use Rattle.wf_kernel.specs.Bound.{Bound, bound_texel, layer_at}
use Rattle.wf_kernel.specs.Laid.{laid, placed_texel}
use Rattle.wf_kernel.specs.Prepared.{prepared_as}
use Rattle.wf_kernel.proofs.Shown.{bound_nothing, source_is}
use Rattle.wf_kernel.proofs.Kept.{layer_is, stretch_shown}
use Rattle.wf_kernel.proofs.Laid.{nothing_laid}
use Rattle.wf_kernel.proofs.laying.lay_stretch.Goals.{In-Some}
use Rattle.wf_kernel.proofs.laying.lay_stretch.Goals as goal

-- the texels of the stretch, by the image
shown : (c : In-Some) → let b : Bound = layer_at c.args.layers.now c.args.i in
    let s = c.args.stretch in
    laid s.len (λ i. placed_texel b c.in-Some.image.now (s.across + i) s.down) c.args.part.now
    ≡ laid s.len (λ i. bound_texel b (s.x + i) s.y) c.args.part.now
shown c =
    let same = layer_is c.args.layers.now c.args.i c.index-layers-i.result c.requires.layer c.index-layers-i.is in
    let prepared = prepared_as (c.layer.view_is ∙ same) c.layer.invariant in
    stretch_shown (layer_at c.args.layers.now c.args.i) c.in-Some.image.now c.args.stretch c.args.part.now prepared.showable
    (source_is (c.layer.view_is ∙ same) (ap option_copied c.in-Some.is)) c.requires.stretch

pub returns-in_default-clause-part : goal.returns-in_default-clause-part
returns-in_default-clause-part c =
    let s = c.args.stretch in
    let b : Bound = layer_at c.args.layers.now c.args.i in
    let same = layer_is c.args.layers.now c.args.i c.index-layers-i.result c.requires.layer c.index-layers-i.is in
    let none = source_is (c.layer.view_is ∙ same) (ap option_copied c.in_default.is) in
    nothing_laid s.len (λ i. bound_texel b (s.x + i) s.y) c.args.part.now c.requires.count (λ i low. bound_nothing b (s.x + i) s.y none)

pub returns-in-Forward-clause-part : goal.returns-in-Forward-clause-part
returns-in-Forward-clause-part c =
    let same = layer_is c.args.layers.now c.args.i c.index-layers-i.result c.requires.layer c.index-layers-i.is in
    let laid = rw same at c.lay_forward.ensures in
    laid ∙ shown (goal.at.returns-in-Forward-clause-part c).In-Some

pub returns-in-Backward-clause-part : goal.returns-in-Backward-clause-part
returns-in-Backward-clause-part c = c.lay_backward.ensures.part ∙ shown (goal.at.returns-in-Backward-clause-part c).In-Some

pub returns-in-Table-clause-part : goal.returns-in-Table-clause-part
returns-in-Table-clause-part c = c.lay_by_table.ensures.part ∙ shown (goal.at.returns-in-Table-clause-part c).In-Some
