use Rattle.std.proofs.Common.{◌≡◌, true, false}
use Rattle.wf_words.specs.Keyed.{is_in}
use Rattle.wf_scene.specs.Slots.{inserted_in}
use Rattle.wf_scene.proofs.Kept.{absent_out}
use Rattle.wf_scene.proofs.Held.{found_slot, held_without}
use Rattle.wf_scene.proofs.StayKept.{kept_dropped}
use Rattle.wf_scene.proofs.UsedSlots.{not_free_used, order_without, tells_used, used_apart}
use Rattle.wf_scene.proofs.slots.Slots.forget.Goals as goal

pub give_back-requires-clause-out : goal.give_back-requires-clause-out
give_back-requires-clause-out c = rw c.take_out.ensures.left (absent_out c.live_slot-slot.result (inserted_in c.args.self.now.links))

pub give_back-requires-clause-used : goal.give_back-requires-clause-used
give_back-requires-clause-used c =
    rw c.take_out.ensures.left (not_free_used _ _ _ _ c.requires.kept c.live_slot-slot.result c.live_slot-slot.ensures.used)

pub drop_slot-requires : goal.drop_slot-requires
drop_slot-requires c = used_apart _ _ _ _ c.take_out.ensures.kept

pub returns-clause-elements : goal.returns-clause-elements
returns-clause-elements c =
    let k = c.args.self.now in
    let slot = c.live_slot-slot.result in
    let found = found_slot k.table.items c.args.handle k.used.items slot c.live_slot-slot.ensures.slot in
    rw (c.drop_slot.ensures, c.take_out.ensures.left)
    (rw found.0 at (held_without k.table.items slot k.used.items (tells_used _ _ _ _ c.requires.kept slot found.1)))

pub returns-clause-order : goal.returns-clause-order
returns-clause-order c =
    rw (c.give_back.ensures.given, c.take_out.ensures.left)
    (order_without _ _ _ _ c.requires.kept c.args.handle c.live_slot-slot.result c.live_slot-slot.ensures.slot)

pub returns-clause-kept : goal.returns-clause-kept
returns-clause-kept c =
    let slot = c.live_slot-slot.result in
    let used : is_in slot c.take_out.new.self.used.items ≡ true = rw c.take_out.ensures.left c.live_slot-slot.ensures.used in
    let out : is_in slot (inserted_in c.take_out.new.self.links) ≡ false =
    rw c.take_out.ensures.left (absent_out slot (inserted_in c.args.self.now.links)) in
    kept_dropped _ _ _ _ c.take_out.ensures.kept slot _ _ used out c.give_back.ensures.linked c.give_back.ensures.given c.drop_slot.ensures
