use Rattle.std.proofs.Common.{◌≡◌, ◌+◌, ◌-◌, ◌*◌, ◌≤◌, ◌++◌, drop}
use Rattle.std.specs.Prelude.{flat_map, All}
use Rattle.std.specs.List.{range_with_len}
use Rattle.wf_kernel.specs.Bound.{bound_row}
use Rattle.wf_kernel.specs.Kept.{AreKept}
use Rattle.wf_kernel.specs.Strips.{IsStrip}
use Rattle.wf_kernel.proofs.painting.paint_by_strips.Given as goal

-- the rows so far are written, and the others are as they were
abbrev pub invariant-loop-i : goal.invariant-loop-i
invariant-loop-i g l =
    record {
      few : l.i ≤ l.rows;
      written :
          l.bytes
          ≡ flat_map (λ i. bound_row l.width l.layers l.background (l.first + i)) (range_with_len 0 l.i)
          ++ drop (l.i * (4 * l.width)) l.fn.bytes;
      kept : All (AreKept l.layers) l.kept;
      strips : All (IsStrip l.layers l.width) l.strips;
    }

abbrev pub decreases-loop-i : goal.decreases-loop-i
decreases-loop-i g l = l.rows - l.i
