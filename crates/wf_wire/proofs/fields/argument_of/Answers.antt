use Rattle.std.proofs.Common.{◌∙◌, sym}
use Rattle.wf_wire.proofs.Numbers.{that_found, that_refused, that_stops}
use Rattle.wf_wire.proofs.fields.argument_of.Goals as goal

pub returns-then-is_of_kind-clause-finds : goal.returns-then-is_of_kind-clause-finds
returns-then-is_of_kind-clause-finds g c =
    that_found _ _ _ _ _ _ _ _ c.in-Ok.ensures.finds (sym c.is_of_kind.ensures ∙ c.if-is_of_kind.true)

pub returns-else-is_of_kind-clause-finds : goal.returns-else-is_of_kind-clause-finds
returns-else-is_of_kind-clause-finds g c =
    that_refused _ _ _ _ _ _ _ _ c.in-Ok.ensures.finds (sym c.is_of_kind.ensures ∙ c.if-is_of_kind.false)

pub returns-in-Err-clause-finds : goal.returns-in-Err-clause-finds
returns-in-Err-clause-finds g c = that_stops _ _ _ _ _ _ _ _ c.in-Err.ensures.finds
