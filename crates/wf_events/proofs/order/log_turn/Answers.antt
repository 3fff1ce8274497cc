use Rattle.std.proofs.Common.{◌∙◌, sym, subst}
use Rattle.wf_events.specs.Log.{ends_tick}
use Rattle.wf_events.specs.Watching.{IsLook}
use Rattle.wf_events.proofs.TurnSeen.{logs_end}
use Rattle.wf_events.proofs.order.log_turn.Goals as goal

pub returns-in_ok-flush : goal.returns-in_ok-flush
returns-in_ok-flush c =
    logs_end c.args.show.now c.take_entry.new.show c.args.entry c.args.queue.now c.note_all.new.self c.look_at-before.result
    c.look_at.result c.as_slice.result.now c.turns-place.result c.in_ok-take_entry.ensures
    (subst (λ h. IsLook h c.look_at-before.result) c.machine.ensures c.look_at-before.ensures)
    (subst (λ h. IsLook h c.look_at.result) c.machine-2.ensures c.look_at.ensures)
    (c.as_slice.ensures.value ∙ c.happened-found.ensures) c.turns-place.ensures c.in_ok-note_all.ensures.told
    c.in_ok-note_all.ensures.most c.as_slice.ensures.fits c.flush.new.self
    ((λ i. ends_tick (sym c.tick_line-line.ensures i) (sym c.tick_line.ensures i)) ∙ sym c.ends_tick.ensures ∙ c.if-ends_tick.true)
    c.in_ok-flush.ensures.flushed c.in_ok-flush.ensures.none
