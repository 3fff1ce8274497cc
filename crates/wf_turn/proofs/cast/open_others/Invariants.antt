use Rattle.wf_turn.proofs.Common.{◌≡◌, ◌≤◌, map, vec_capacity, range_with_len, program}
use Rattle.std.proofs.Common.{vec_len}
use Rattle.wf_turn.proofs.cast.open_others.Given as goal

abbrev pub invariant-loop-before : goal.invariant-loop-before
invariant-loop-before l = (l.others.items ≡ map (program l.script) (range_with_len 1 l.before)) × (7 ≤ vec_capacity l.others)
    × (vec_len l.others ≡ l.before)
