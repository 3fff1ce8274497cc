use Rattle.std.proofs.Common.{◌≡◌, ◌*◌}
use Rattle.wf_row.specs.Gather.{gathered_row}
use Rattle.wf_row.proofs.Rows.{written}
use Rattle.wf_row.proofs.Copies.{copied}
use Rattle.wf_row.proofs.gather.copy_gathered_row.Given as goal

-- the pixels so far are written, and the others are as they were
abbrev pub invariant-loop-i : goal.invariant-loop-i
invariant-loop-i l = l.row ≡ written copied (4 * l.i) (gathered_row l.src l.columns) l.fn.row
