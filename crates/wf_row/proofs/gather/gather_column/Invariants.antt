use Rattle.std.proofs.Common.{◌≡◌, ◌*◌, ◌++◌, take, drop}
use Rattle.wf_row.specs.Gather.{gathered_column}
use Rattle.wf_row.proofs.gather.gather_column.Given as goal

-- the pixels so far are written, and the others are as they were
abbrev pub invariant-loop-i : goal.invariant-loop-i
invariant-loop-i l = l.out ≡ gathered_column l.src l.column l.stride (take l.i l.rows) ++ drop (4 * l.i) l.fn.out
