use Rattle.std.proofs.Common.{◌≡◌}
use Rattle.wf_kernel.specs.Prepared.{tables_before}
use Rattle.wf_kernel.proofs.tables.count_tables.Given as goal

-- those of the layers so far are counted
abbrev pub invariant-loop-i : goal.invariant-loop-i
invariant-loop-i l = l.count ≡ tables_before l.scene l.i
