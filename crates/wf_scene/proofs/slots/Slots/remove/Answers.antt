use Rattle.wf_scene.proofs.UsedSlots.{order_without}
use Rattle.wf_scene.proofs.slots.Slots.remove.Goals as goal

pub returns-clause-order : goal.returns-clause-order
returns-clause-order c =
    rw c.take_out.ensures.left (order_without _ _ _ _ c.requires.kept c.args.handle c.live_slot-slot.result c.live_slot-slot.ensures.slot)
