use Rattle.std.proofs.Common.{◌≡◌, ◌+◌, take}
use Rattle.wf_guard.specs.Policy.{owned_bytes}
use Rattle.wf_guard.proofs.owners.takes_more.Given as goal

abbrev pub invariant-loop-one : goal.invariant-loop-one
invariant-loop-one l = l.left + owned_bytes l.client (take l.one-index l.list) ≡ l.fn.most
