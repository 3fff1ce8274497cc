use Rattle.std.proofs.Common.{◌≡◌, length}
use Rattle.wf_host.specs.Rows.{put_at, swapped_to}
use Rattle.wf_host.proofs.order.put_swapped.Given as goal

-- the pixels so far are put
abbrev pub invariant-loop-x : goal.invariant-loop-x
invariant-loop-x l = (l.out ≡ put_at l.at (swapped_to l.row l.x) l.fn.out) × (length l.out ≡ length l.fn.out)
