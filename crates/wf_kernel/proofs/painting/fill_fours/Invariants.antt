use Rattle.std.proofs.Common.{◌≡◌, ◌*◌, ◌++◌, drop}
use Rattle.wf_pixel.specs.declared.Format.TheVariants.{Rgba8Pre}
use Rattle.wf_image.specs.Bitmap.{drawn_row}
use Rattle.wf_kernel.proofs.painting.fill_fours.Given as goal

-- the pixels so far are written, and the others are as they were
abbrev pub invariant-loop-i : goal.invariant-loop-i
invariant-loop-i l = l.row ≡ drawn_row (4 * l.i) Rgba8Pre (λ _. l.fn.color) ++ drop (16 * l.i) l.fn.row
