use Rattle.std.proofs.Common.{ℕ, List, length, sym, ap, subst, ◌∙◌}
use Rattle.wf_kernel.specs.PartOfTarget.{part_colour, IsPartly}
use Rattle.wf_kernel.proofs.Partly.{part_is}
use Rattle.wf_kernel.proofs.parts.picture_part.Goals as goal

pub returns-clause-picture : goal.returns-clause-picture
returns-clause-picture c =
    part_is c.args.scene.now c.args.contents.now c.args.area c.part_of-part.result c.args.target.now c.part_of_scene.new.bytes
    c.requires.size c.requires.pixels (ap (λ (l : List ℕ). length l) (sym c.bytes_mut.ensures.value) ∙ c.bytes_mut.ensures.len)
    c.part_of-part.ensures.holds
    (subst (λ (l : List ℕ). IsPartly c.args.scene.now.size.w c.args.scene.now.size.h
    (part_colour c.args.scene.now c.args.contents.now c.part_of-part.result) c.part_of-part.result l c.part_of_scene.new.bytes)
    c.bytes_mut.ensures.value c.part_of_scene.ensures)
