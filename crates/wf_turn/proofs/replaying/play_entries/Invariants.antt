use Rattle.wf_turn.proofs.EntriesPlayedAgain.{ArePlayed}
use Rattle.wf_turn.proofs.replaying.play_entries.Given as goal

abbrev pub invariant-loop-place : goal.invariant-loop-place
invariant-loop-place g l =
    ArePlayed g.K.Sink.took l.initial.k l.k l.initial.writer l.writer l.initial.show l.show l.entries l.place
    (g.K.Sink.faults l.initial.k) (g.K.Sink.faults l.k)
