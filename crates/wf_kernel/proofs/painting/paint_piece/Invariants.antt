use Rattle.std.proofs.Common.{◌≡◌, ◌+◌, ◌-◌, ◌*◌, ◌≤◌, ◌++◌, drop}
use Rattle.std.specs.Prelude.{All}
use Rattle.wf_pixel.specs.declared.Format.TheVariants.{Rgba8Pre}
use Rattle.wf_image.specs.Bitmap.{drawn_row}
use Rattle.wf_kernel.specs.Bound.{bound_colour}
use Rattle.wf_kernel.specs.Kept.{AreKept}
use Rattle.wf_kernel.specs.Strips.{IsStrip}
use Rattle.wf_kernel.proofs.painting.paint_piece.Given as goal

-- the pieces so far are written, and the pixels behind them are as they were
abbrev pub invariant-loop-first : goal.invariant-loop-first
invariant-loop-first l = record {
  strips : All (IsStrip l.layers l.right) l.strips;
  kept : All (AreKept l.layers) l.kept;
  few : l.k ≤ l.first;
  from : l.left ≤ l.first;
  within : l.first ≤ l.right;
  written :
      l.row
      ≡ drawn_row (l.first - l.left) Rgba8Pre (λ x. bound_colour l.layers l.background (l.left + x) l.y)
      ++ drop (4 * (l.first - l.left)) l.fn.row;
}

abbrev pub decreases-loop-first : goal.decreases-loop-first
decreases-loop-first l = l.right - l.first
