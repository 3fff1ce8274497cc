use Rattle.std.proofs.Common.{◌≡◌, ◌*◌}
use Rattle.wf_row.specs.Gather.{reversed}
use Rattle.wf_row.proofs.Rows.{written}
use Rattle.wf_row.proofs.Copies.{copied}
use Rattle.wf_row.proofs.reversing.copy_reversed_row.Given as goal

-- the blocks so far are written, and the others are as they were
abbrev pub invariant-loop-block : goal.invariant-loop-block
invariant-loop-block l = l.row ≡ written copied (16 * l.block) (reversed l.src) l.fn.row

-- and the pixels behind them
abbrev pub invariant-loop-i : goal.invariant-loop-i
invariant-loop-i l = l.row ≡ written copied (4 * l.i) (reversed l.src) l.fn.row
