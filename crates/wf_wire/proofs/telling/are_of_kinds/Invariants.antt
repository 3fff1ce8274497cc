use Rattle.std.proofs.Common.{◌≡◌, true, length, take}
use Rattle.std.specs.List.{list_all, zip}
use Rattle.wf_wire.specs.Messages.{is_of_kind}
use Rattle.wf_wire.proofs.telling.are_of_kinds.Given as goal

abbrev pub invariant-loop-at : goal.invariant-loop-at
invariant-loop-at l = (length l.kinds ≡ length l.bits) × (list_all (λ x. is_of_kind x.0 x.1) (take l.at (zip l.kinds l.bits)) ≡ true)
