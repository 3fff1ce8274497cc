use Rattle.std.proofs.Common.{◌≡◌, ◌*◌, ◌++◌, take, drop}
use Rattle.wf_row.specs.Gather.{gathered_row}
use Rattle.wf_row.proofs.gather.gather_row.Given as goal

-- the pixels so far are written, and the others are as they were
abbrev pub invariant-loop-i : goal.invariant-loop-i
invariant-loop-i l = l.out ≡ gathered_row l.src (take l.i l.columns) ++ drop (4 * l.i) l.fn.out
