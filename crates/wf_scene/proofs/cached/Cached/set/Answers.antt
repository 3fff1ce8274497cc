use Rattle.std.proofs.Common.{sym, ap, ◌∙◌, refl}
use Rattle.wf_scene.specs.Cached.{handle_of}
use Rattle.wf_scene.specs.Elements.{change_of}
use Rattle.wf_scene.specs.Slots.{held, inserted_in}
use Rattle.wf_scene.specs.Inside.{scene_inside}
use Rattle.wf_scene.specs.Keeping.{keeps_handle, keeps_place}
use Rattle.wf_scene.proofs.Handled.{orderly_changed}
use Rattle.wf_scene.proofs.StayKept.{IsWrittenBack, kept_changed, written_back}
use Rattle.wf_scene.proofs.cached.Cached.set.Goals as goal

-- the element after the value was set
written : (c : goal.After-self-1) → IsWrittenBack c.self.inside.slots.table.items c.self.inside.slots.used.items
    (inserted_in c.self.inside.slots.links) c.args.element c.live_slot-slot.result c.in-Some.changed (change_of c.args.attr c.args.value)
written c =
    written_back _ _ _ _ c.self.invariant.kept c.args.element c.live_slot-slot.result c.index.result.now c.in-Some.changed
    (change_of c.args.attr c.args.value) c.live_slot-slot.ensures.slot c.index.ensures (sym c.with.ensures ∙ c.in-Some.is)

pub invariant_of-self : goal.invariant_of-self
invariant_of-self c =
    let w = written c in
    let keeps = keeps_handle c.args.attr c.args.value w.change w.changes in
    let table = c.self.inside.slots.table.items in
    record {
      orderly =
          rw (w.elements, w.order keeps) (orderly_changed (scene_inside c.self.inside) c.self.invariant.orderly c.args.element w.change
          keeps (keeps_place c.args.attr c.args.value w.change w.changes));
      kept = kept_changed _ _ _ _ c.self.invariant.kept c.live_slot-slot.result c.in-Some.changed w.there
          (ap handle_of w.value ∙ keeps (held table c.live_slot-slot.result));
    }

pub returns-clause-case : goal.returns-clause-case
returns-clause-case c =
    let w = written c in
    let keeps = keeps_handle c.args.attr c.args.value w.change w.changes in
    rw (← c.self.view_is, w.changes, w.elements, w.order keeps) refl

pub returns-clause-orderly : goal.returns-clause-orderly
returns-clause-orderly c = (invariant_of-self c).orderly
