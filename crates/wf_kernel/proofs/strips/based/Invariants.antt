use Rattle.std.proofs.Common.{◌≡◌, ◌≤◌}
use Rattle.std.specs.Prelude.{None}
use Rattle.wf_kernel.specs.Strips.{IsStrip, IsCut}
use Rattle.wf_kernel.proofs.strips.based.Given as goal

-- what is left has no base so far
abbrev pub invariant-loop-i : goal.invariant-loop-i
invariant-loop-i l = record {
  strip : IsStrip l.layers l.width l.left;
  cut : IsCut l.fn.strip l.left;
  base : l.left.base ≡ None;
  top : l.left.top ≡ l.fn.strip.top;
  within : l.i ≤ l.fn.strip.top;
}

abbrev pub decreases-loop-i : goal.decreases-loop-i
decreases-loop-i l = l.i
