use Rattle.std.proofs.Common.{◌≡◌, ◌*◌}
use Rattle.wf_row.proofs.Reversals.{reversed_to}
use Rattle.wf_row.proofs.reversing.reverse_row.Given as goal

-- the blocks so far are written, and the others are as they were
abbrev pub invariant-loop-block : goal.invariant-loop-block
invariant-loop-block l = l.out ≡ reversed_to (16 * l.block) l.src l.fn.out
