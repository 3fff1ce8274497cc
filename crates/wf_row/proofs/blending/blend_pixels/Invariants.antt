use Rattle.std.proofs.Common.{◌≡◌, ◌*◌}
use Rattle.wf_row.specs.Bytes.{blended}
use Rattle.wf_row.proofs.Rows.{written}
use Rattle.wf_row.proofs.blending.blend_pixels.Given as goal

-- the blocks so far are blended, and the others are as they were
abbrev pub invariant-loop-block : goal.invariant-loop-block
invariant-loop-block l = l.row ≡ written (blended l.mode l.fade) (32 * l.block) l.src l.fn.row
