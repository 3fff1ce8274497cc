use Rattle.std.specs.Prelude.{◌≡◌}
use Rattle.wf_show.specs.Clocks.{ShowsSoFar}
use Rattle.wf_show.proofs.clock.go_on.Given as goal

abbrev pub invariant-loop-clock : goal.invariant-loop-clock
invariant-loop-clock g l =
    (l.writer.form ≡ l.initial.writer.form)
    × ShowsSoFar g.K.Sink.took l.desk.id l.initial.k l.k l.initial.writer.form l.initial.writer.written l.writer.written
    l.initial.clock l.clock (g.K.Sink.faults l.initial.k) (g.K.Sink.faults l.k)

abbrev pub decreases-loop-clock : goal.decreases-loop-clock
decreases-loop-clock g l = l.clock.pass.left
