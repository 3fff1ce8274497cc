use Rattle.wf_turn.proofs.Common.{vec_capacity, all_left}
use Rattle.wf_turn.proofs.TurnsPlayed.{IsPlaying}
use Rattle.wf_turn.proofs.player.play_turns.Given as goal

abbrev pub invariant-loop-next : goal.invariant-loop-next
invariant-loop-next g l =
    IsPlaying g.K.Sink.took l.initial.k l.k l.initial.writer l.writer l.initial.show l.show l.next l.played.items
    (all_left l.initial.show.programs) (vec_capacity l.played) (g.K.Sink.faults l.initial.k) (g.K.Sink.faults l.k)

abbrev pub decreases-loop-next : goal.decreases-loop-next
decreases-loop-next g l = all_left l.show.programs
