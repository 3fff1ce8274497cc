use Rattle.std.proofs.Common.{◌∙◌, ap, sym, arith, Some}
use Rattle.std.specs.Prelude.{option_map}
use Rattle.wf_scene.specs.Order as order
use Rattle.wf_scene.specs.Slots.{handle_or_none, inserted_in, order_in}
use Rattle.wf_scene.proofs.Held.{found_slot}
use Rattle.wf_scene.proofs.UsedSlots.{order_above, order_nowhere}
use Rattle.wf_scene.proofs.TwoLists.{above_within, inserted_somewhere}
use Rattle.wf_scene.proofs.slots.Slots.above.Goals as goal

pub returns-in_err-slot : goal.returns-in_err-slot
returns-in_err-slot c =
    c.from_residual.ensures
    ∙ sym (ap (option_map (order.next_above (order_in c.args.self.now)))
    (order_nowhere _ _ _ _ c.requires c.args.handle (sym c.inserted_slot.ensures ∙ c.in_err-slot.was)))

pub above-requires : goal.above-requires
above-requires c =
    let k = c.args.self.now in
    let found = sym c.inserted_slot.ensures ∙ c.in_ok-slot.was in
    let is = found_slot k.table.items c.args.handle (inserted_in k.links) c.in_ok-slot.slot found in
    inserted_somewhere k.links c.requires.linked c.in_ok-slot.slot is.1

pub handle_or_none-requires : goal.handle_or_none-requires
handle_or_none-requires c = λ x some.
    (let k = c.args.self.now in
    let found = sym c.inserted_slot.ensures ∙ c.in_ok-slot.was in
    let is = found_slot k.table.items c.args.handle (inserted_in k.links) c.in_ok-slot.slot found in
    omega (
      arith,
      c.requires.slots,
      above_within k.links c.requires.linked c.in_ok-slot.slot x is.1 (sym c.above.ensures.above ∙ some),
    ))

pub returns : goal.returns
returns c =
    let k = c.args.self.now in
    ap (λ n. Some n) (c.handle_or_none.ensures ∙ ap (handle_or_none k.table.items) c.above.ensures.above)
    ∙ sym (order_above _ _ _ _ c.requires c.args.handle c.in_ok-slot.slot (sym c.inserted_slot.ensures ∙ c.in_ok-slot.was))
