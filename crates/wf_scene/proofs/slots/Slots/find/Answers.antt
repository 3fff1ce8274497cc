use Rattle.std.proofs.Common.{◌<◌, length, ◌∙◌, ap, sym, arith, Some}
use Rattle.std.specs.Prelude.{option_map}
use Rattle.std.proofs.lemmas.List.{get_or_read}
use Rattle.wf_scene.specs.Elements.{new_element}
use Rattle.wf_scene.specs.Slots.{held}
use Rattle.wf_scene.proofs.Held.{element_found, found_slot}
use Rattle.wf_scene.proofs.UsedSlots.{used_within}
use Rattle.wf_scene.proofs.slots.Slots.find.Goals as goal

pub returns-in_err-slot : goal.returns-in_err-slot
returns-in_err-slot c =
    let k = c.args.self.now in
    c.from_residual.ensures
    ∙ sym (element_found k.table.items c.args.handle k.used.items
    ∙ ap (option_map (held k.table.items)) (sym c.slot_of.ensures ∙ c.in_err-slot.was))

within : (c : goal.In_ok-slot) → c.in_ok-slot.slot < length c.args.self.now.table.items
within c =
    let k = c.args.self.now in
    let found = found_slot k.table.items c.args.handle k.used.items c.in_ok-slot.slot (sym c.slot_of.ensures ∙ c.in_ok-slot.was) in
    omega (arith, c.requires.slots, used_within _ _ _ _ c.requires c.in_ok-slot.slot found.1)

pub index-requires : goal.index-requires
index-requires c = omega (arith, within c, c.args.self.now.table.ok.0)

pub returns : goal.returns
returns c =
    let k = c.args.self.now in
    let found = found_slot k.table.items c.args.handle k.used.items c.in_ok-slot.slot (sym c.slot_of.ensures ∙ c.in_ok-slot.was) in
    let less : c.in_ok-slot.slot < length k.table.items =
    omega (arith, c.requires.slots, used_within _ _ _ _ c.requires c.in_ok-slot.slot found.1) in
    ap (λ e. Some e) (get_or_read k.table.items c.in_ok-slot.slot c.index.result.now less c.index.ensures (new_element 0))
    ∙ sym (element_found k.table.items c.args.handle k.used.items
    ∙ ap (option_map (held k.table.items)) (sym c.slot_of.ensures ∙ c.in_ok-slot.was))
