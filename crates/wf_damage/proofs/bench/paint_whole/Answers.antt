use Rattle.std.proofs.Common.{ap, ◌∙◌}
use Rattle.wf_pixel.specs.declared.Rect.{Rect}
use Rattle.wf_kernel.specs.Parts.{part_picture}
use Rattle.wf_damage.proofs.Painted.{over_whole}
use Rattle.wf_damage.proofs.bench.paint_whole.Goals as goal

pub returns-clause-picture : goal.returns-clause-picture
returns-clause-picture g c =
    c.part.ensures.picture
    ∙ ap (λ (r : Rect). part_picture c.args.scene.now c.args.contents.now r c.args.target.now) c.whole_of.ensures
    ∙ over_whole c.args.scene.now c.args.contents.now c.args.target.now c.requires.size
