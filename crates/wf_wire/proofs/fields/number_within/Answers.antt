use Rattle.std.proofs.Common.{◌∙◌, sym}
use Rattle.wf_wire.proofs.Numbers.{that_found, that_refused, that_stops}
use Rattle.wf_wire.proofs.fields.number_within.Goals as goal

pub returns-then-is_within-clause-finds : goal.returns-then-is_within-clause-finds
returns-then-is_within-clause-finds g c =
    that_found _ _ _ _ _ _ _ _ c.in-Ok.ensures.finds (sym c.is_within.ensures ∙ c.if-is_within.true)

pub returns-else-is_within-clause-finds : goal.returns-else-is_within-clause-finds
returns-else-is_within-clause-finds g c =
    that_refused _ _ _ _ _ _ _ _ c.in-Ok.ensures.finds (sym c.is_within.ensures ∙ c.if-is_within.false)

pub returns-in-Err-clause-finds : goal.returns-in-Err-clause-finds
returns-in-Err-clause-finds g c = that_stops _ _ _ _ _ _ _ _ c.in-Err.ensures.finds
