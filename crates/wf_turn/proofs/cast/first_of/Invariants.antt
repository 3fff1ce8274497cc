use Rattle.wf_turn.proofs.Common.{◌≡◌, ◌∷◌, map, take, IfSome, StandsOwn, place_of}
use Rattle.wf_turn.proofs.Clients.{clock_first, first_from}
use Rattle.wf_turn.proofs.cast.first_of.Given as goal

abbrev pub invariant-loop-before : goal.invariant-loop-before
invariant-loop-before l = (l.best ≡ first_from (clock_first l.clock) 1 (take l.before (map place_of l.others)))
    × IfSome l.best (StandsOwn (l.clock ∷ l.others))
