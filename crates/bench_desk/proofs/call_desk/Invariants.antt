use Rattle.std.proofs.Common.{◌≡◌}
use Rattle.bench_desk.proofs.call_desk.Given as goal

abbrev pub invariant-loop-pass : goal.invariant-loop-pass
invariant-loop-pass g l = l.pass.desk ≡ l.initial.pass.desk

abbrev pub decreases-loop-pass : goal.decreases-loop-pass
decreases-loop-pass g l = l.pass.left
