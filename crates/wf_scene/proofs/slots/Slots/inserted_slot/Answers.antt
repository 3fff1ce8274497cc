use Rattle.std.proofs.Common.{◌∙◌, sym}
use Rattle.wf_scene.proofs.Held.{found_slot}
use Rattle.wf_scene.proofs.UsedSlots.{found_inserted, none_inserted, used_within}
use Rattle.wf_scene.proofs.slots.Slots.inserted_slot.Goals as goal

pub returns-in_err-slot : goal.returns-in_err-slot
returns-in_err-slot c =
    c.from_residual.ensures ∙ sym (none_inserted _ _ _ _ c.requires c.args.handle (sym c.slot_of.ensures ∙ c.in_err-slot.was))

pub is_inserted-requires-clause-slot : goal.is_inserted-requires-clause-slot
is_inserted-requires-clause-slot c =
    let k = c.args.self.now in
    let found = found_slot k.table.items c.args.handle k.used.items c.in_ok-slot.slot (sym c.slot_of.ensures ∙ c.in_ok-slot.was) in
    used_within _ _ _ _ c.requires c.in_ok-slot.slot found.1

pub returns-then-is_inserted : goal.returns-then-is_inserted
returns-then-is_inserted c =
    let found = found_inserted _ _ _ _ c.requires c.args.handle c.in_ok-slot.slot (sym c.slot_of.ensures ∙ c.in_ok-slot.was) in
    sym (rw (sym c.is_inserted.ensures ∙ c.if-is_inserted.true) at found)

pub returns-else-is_inserted : goal.returns-else-is_inserted
returns-else-is_inserted c =
    let found = found_inserted _ _ _ _ c.requires c.args.handle c.in_ok-slot.slot (sym c.slot_of.ensures ∙ c.in_ok-slot.was) in
    sym (rw (sym c.is_inserted.ensures ∙ c.if-is_inserted.false) at found)
