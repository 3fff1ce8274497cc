use Rattle.std.proofs.Common.{◌≡◌}
use Rattle.std.specs.Prelude.{None}
use Rattle.wf_kernel.specs.Strips.{IsStrip, IsCut}
use Rattle.wf_kernel.proofs.strips.topped.Given as goal

-- the layers above show nothing on what is left
abbrev pub invariant-loop-left : goal.invariant-loop-left
invariant-loop-left l = record {
  strip : IsStrip l.layers l.width l.left;
  cut : IsCut l.fn.strip l.left;
  base : l.left.base ≡ None;
}

abbrev pub decreases-loop-left : goal.decreases-loop-left
decreases-loop-left l = l.left.top
