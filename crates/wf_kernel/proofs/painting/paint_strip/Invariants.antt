use Rattle.std.proofs.Common.{◌≡◌, ◌+◌, take}
use Rattle.std.specs.Prelude.{All}
use Rattle.wf_pixel.specs.declared.Format.TheVariants.{Rgba8Pre}
use Rattle.wf_image.specs.Bitmap.{drawn_row}
use Rattle.wf_kernel.specs.Bound.{bound_colour}
use Rattle.wf_kernel.specs.Kept.{AreKept}
use Rattle.wf_kernel.proofs.painting.paint_strip.Given as goal

-- the layers so far are laid
abbrev pub invariant-loop-i : goal.invariant-loop-i
invariant-loop-i l = record {
  row : l.row ≡ drawn_row l.strip.width Rgba8Pre (λ x. bound_colour (take l.i l.layers) l.fn.background (l.strip.first + x) l.y);
  kept : All (AreKept l.layers) l.kept;
}
