use Rattle.std.proofs.Common.{◌∙◌, ap, sym, arith, is_some}
use Rattle.std.proofs.lemmas.Bool.{false≢true}
use Rattle.wf_scene.proofs.Held.{found_slot, live_found}
use Rattle.wf_scene.proofs.UsedSlots.{used_within}
use Rattle.wf_scene.proofs.slots.Slots.live_slot.Goals as goal

pub unreachable-requires : goal.unreachable-requires
unreachable-requires c =
    let k = c.args.self.now in
    let none = live_found k.table.items c.args.handle k.used.items ∙ ap is_some (sym c.slot_of.ensures ∙ c.in-None.is) in
    false≢true (sym none ∙ c.requires.live)

pub returns-clause-used : goal.returns-clause-used
returns-clause-used c =
    let k = c.args.self.now in
    (found_slot k.table.items c.args.handle k.used.items c.in-Some.slot (sym c.slot_of.ensures ∙ c.in-Some.is)).1

pub returns-clause-within : goal.returns-clause-within
returns-clause-within c =
    omega (arith, c.requires.kept.slots, used_within _ _ _ _ c.requires.kept c.in-Some.slot (returns-clause-used c))
