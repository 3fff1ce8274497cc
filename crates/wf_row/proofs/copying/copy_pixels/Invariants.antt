use Rattle.std.proofs.Common.{◌≡◌, ◌*◌}
use Rattle.wf_row.proofs.Rows.{written}
use Rattle.wf_row.proofs.Copies.{copied}
use Rattle.wf_row.proofs.copying.copy_pixels.Given as goal

-- the blocks so far are written, and the others are as they were
abbrev pub invariant-loop-block : goal.invariant-loop-block
invariant-loop-block l = l.row ≡ written copied (16 * l.block) l.src l.fn.row
