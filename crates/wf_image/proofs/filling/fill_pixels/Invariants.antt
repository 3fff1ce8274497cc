use Rattle.std.proofs.Common.{◌≡◌, ◌*◌, ◌++◌, drop}
use Rattle.wf_pixel.specs.declared.Format.TheVariants.{Rgba8}
use Rattle.wf_image.specs.Bitmap.{stored}
use Rattle.wf_image.proofs.Fills.{cells_of}
use Rattle.wf_image.proofs.filling.fill_pixels.Given as goal

-- the pixels so far have the colour, and the others are as they were
abbrev pub invariant-loop-block : goal.invariant-loop-block
invariant-loop-block l = l.bytes ≡ cells_of (stored Rgba8 l.color) (8 * l.block) ++ drop (32 * l.block) l.fn.bytes

abbrev pub invariant-loop-x : goal.invariant-loop-x
invariant-loop-x l = l.bytes ≡ cells_of (stored Rgba8 l.color) l.x ++ drop (4 * l.x) l.fn.bytes
