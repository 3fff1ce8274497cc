use Rattle.std.proofs.Common.{◌∙◌, sym}
use Rattle.wf_scene.proofs.Orders.{out_at, out_nowhere}
use Rattle.wf_scene.proofs.slots.drop_slot.Goals as goal

pub returns-in-Some : goal.returns-in-Some
returns-in-Some c =
    let placed = rw c.as_slice.ensures.value at c.place_of.ensures in
    c.remove.ensures.items ∙ out_at c.args.slot c.args.used.now.items c.in-Some.place c.requires (sym placed ∙ c.in-Some.is)

pub returns-in_default : goal.returns-in_default
returns-in_default c =
    let placed = rw c.as_slice.ensures.value at c.place_of.ensures in
    out_nowhere c.args.slot c.args.used.now.items (sym placed ∙ c.in_default.is)
