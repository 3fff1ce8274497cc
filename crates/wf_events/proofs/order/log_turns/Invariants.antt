use Rattle.wf_events.proofs.TurnsLogged.{AreLogged}
use Rattle.wf_events.proofs.order.log_turns.Given as goal

abbrev pub invariant-loop-entry : goal.invariant-loop-entry
invariant-loop-entry l = AreLogged l.initial.show l.entries l.depth l.show l.queue l.entry-index
