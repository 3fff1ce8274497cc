use Rattle.std.proofs.Common.{ap, arith, length, refl}
use Rattle.std.proofs.lemmas.List.{length-map}
use Rattle.wf_links.specs.Lists.{without}
use Rattle.wf_scene.specs.Slots.{handle_held, inserted_in}
use Rattle.wf_scene.proofs.Kept.{absent_out}
use Rattle.wf_scene.proofs.UsedSlots.{base_stays, order_inserted, order_without}
use Rattle.wf_scene.proofs.slots.Slots.insert.Goals as goal

pub put_in-requires-clause-out : goal.put_in-requires-clause-out
put_in-requires-clause-out c = rw c.take_out.ensures.left (absent_out c.live_slot-slot.result (inserted_in c.args.self.now.links))

pub put_in-requires-clause-base : goal.put_in-requires-clause-base
put_in-requires-clause-base c =
    let slot = c.live_slot-slot.result in
    rw (c.take_out.ensures.left, c.inserted_slot-under.ensures)
    (base_stays _ _ _ _ c.requires.kept c.args.handle c.args.base slot c.if-handle-base.true c.live_slot-slot.ensures.slot)

pub put_in-requires-clause-room : goal.put_in-requires-clause-room
put_in-requires-clause-room c =
    let k = c.args.self.now in
    let fewer = order_without _ _ _ _ c.requires.kept c.args.handle c.live_slot-slot.result c.live_slot-slot.ensures.slot in
    let mapped = length-map (without c.live_slot-slot.result (inserted_in k.links)) (handle_held k.table.items) in
    rw c.take_out.ensures.left (omega (arith, c.requires.room, ap length fewer, mapped))

pub returns-then-handle-base-clause-order : goal.returns-then-handle-base-clause-order
returns-then-handle-base-clause-order c =
    rw (c.put_in.ensures.put, c.take_out.ensures.left, c.inserted_slot-under.ensures)
    (order_inserted _ _ _ _ c.requires.kept c.args.handle c.args.base c.live_slot-slot.result _ c.live_slot-slot.ensures.slot refl
    c.requires.base c.requires.named c.if-handle-base.true)
