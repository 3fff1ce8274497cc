use Rattle.std.proofs.Common.{◌≤◌}
use Rattle.wfserve.proofs.words.ports_in.Given as goal

abbrev pub invariant-loop-word : goal.invariant-loop-word
invariant-loop-word l = l.count ≤ 4
