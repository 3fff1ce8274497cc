use Rattle.std.proofs.Common.{◌≡◌, length}
use Rattle.wf_kernel.specs.Prepared.{tables_before}
use Rattle.wf_kernel.proofs.Bindings.{AreFilled}
use Rattle.wf_kernel.proofs.tables.fill_tables.Given as goal

-- the tables of the layers so far are worked out
abbrev pub invariant-loop-i : goal.invariant-loop-i
invariant-loop-i l = record {
  len : length l.tables ≡ length l.fn.tables;
  place_is : l.place ≡ tables_before l.scene l.i;
  filled : AreFilled l.scene l.left l.right l.layers l.i l.place l.tables;
}
