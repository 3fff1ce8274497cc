use Rattle.wf_turn.proofs.Common.{◌≡◌, true, take, list_all, place_of}
use Rattle.std.specs.Option.{is_none}
use Rattle.wf_turn.proofs.cast.are_through.Given as goal

abbrev pub invariant-loop-program : goal.invariant-loop-program
invariant-loop-program l = list_all (λ p. is_none (place_of p)) (take l.program-index l.programs) ≡ true
