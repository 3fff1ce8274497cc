use Rattle.wf_turn.proofs.Common.{◌≡◌, ◌++◌, map, take, drop, taught}
use Rattle.wf_turn.proofs.cast.teach.Given as goal

abbrev pub invariant-loop-program : goal.invariant-loop-program
invariant-loop-program l = l.others ≡ map (taught l.clock) (take l.program-index l.initial.others) ++ drop l.program-index l.initial.others
