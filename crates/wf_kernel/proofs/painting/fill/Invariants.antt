use Rattle.std.proofs.Common.{◌≡◌, ◌*◌, ◌++◌, drop}
use Rattle.wf_pixel.specs.declared.Format.TheVariants.{Rgba8Pre}
use Rattle.wf_image.specs.Bitmap.{drawn_row}
use Rattle.wf_kernel.proofs.painting.fill.Given as goal

-- the pixels so far are written, and the others are as they were
abbrev pub invariant-loop-x : goal.invariant-loop-x
invariant-loop-x l = l.row ≡ drawn_row l.x Rgba8Pre (λ _. l.color) ++ drop (4 * l.x) l.fn.row
