use Rattle.std.proofs.Common.{◌≡◌, length}
use Rattle.wf_host.specs.Rows.{copied}
use Rattle.wf_host.proofs.rows.copy_rows.Given as goal

abbrev pub invariant-loop-y : goal.invariant-loop-y
invariant-loop-y l = (l.out ≡ copied l.order l.to l.from l.row l.y l.bytes l.initial.out) × (length l.out ≡ length l.initial.out)
