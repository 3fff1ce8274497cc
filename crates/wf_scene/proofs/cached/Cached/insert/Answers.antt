use Rattle.std.proofs.Common.{◌≡◌, false, sym, ◌∙◌}
use Rattle.wf_scene.specs.Order.{has_no_room}
use Rattle.wf_scene.specs.Slots.{order_in}
use Rattle.wf_scene.specs.Inside.{scene_inside}
use Rattle.wf_scene.proofs.Kept.{room_without}
use Rattle.wf_scene.proofs.Handled.{orderly_inserted}
use Rattle.wf_scene.proofs.cached.Cached.insert.Goals as goal

pub insert-requires-clause-room : goal.insert-requires-clause-room
insert-requires-clause-room c =
    room_without c.args.element (order_in c.self.inside.slots) c.self.invariant.orderly.room
    (sym c.has_no_room.ensures ∙ c.if-has_no_room.false)

pub invariant_of-self : goal.invariant_of-self
invariant_of-self c =
    let live = rw (← c.self.view_is) at c.requires in
    let room : has_no_room c.args.element (order_in c.self.inside.slots) ≡ false = sym c.has_no_room.ensures ∙ c.if-has_no_room.false in
    record {
      orderly =
          rw (c.insert.ensures.elements, c.insert.ensures.order)
          (orderly_inserted (scene_inside c.self.inside) c.self.invariant.orderly c.args.element c.args.below live room);
      kept = c.insert.ensures.kept;
    }

pub returns-clause-orderly : goal.returns-clause-orderly
returns-clause-orderly c = (invariant_of-self c).orderly
