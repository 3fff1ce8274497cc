use Rattle.std.proofs.Common.{◌≡◌}
use Rattle.tests_desk.proofs.gate.walk.Given as goal

abbrev pub invariant-loop-pass : goal.invariant-loop-pass
invariant-loop-pass g l = (l.pass.desk ≡ l.initial.pass.desk) × (l.pass.client ≡ l.initial.pass.client)

abbrev pub decreases-loop-pass : goal.decreases-loop-pass
decreases-loop-pass g l = l.pass.left
