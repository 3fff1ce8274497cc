use Rattle.std.proofs.Common.{ℕ, ◌*◌, ◌<◌}
use Rattle.wf_row.specs.Gather.{IsGathered}
use Rattle.wf_row.proofs.columns.gather_columns.Given as goal

-- the rows so far are written
abbrev pub invariant-loop-four : goal.invariant-loop-four
invariant-loop-four l = (a b : ℕ) → a < 4 * l.four → b < 8 → IsGathered l.src l.column l.stride l.rows l.out a b

abbrev pub invariant-loop-i : goal.invariant-loop-i
invariant-loop-i l = (a b : ℕ) → a < l.i → b < 8 → IsGathered l.src l.column l.stride l.rows l.out a b

-- and the pixels so far of one row more
abbrev pub invariant-loop-j : goal.invariant-loop-j
invariant-loop-j l =
    ((a b : ℕ) → a < l.i → b < 8 → IsGathered l.src l.column l.stride l.rows l.out a b)
    × ((b : ℕ) → b < l.j → IsGathered l.src l.column l.stride l.rows l.out l.i b)
