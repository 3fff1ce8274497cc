use Rattle.std.proofs.Common.{sym}
use Rattle.wf_wire.proofs.Nexts.{cut_next, no_first, no_next, no_number, whole_next}
use Rattle.wf_wire.proofs.messages.next_of.Goals as goal

pub returns-in-Ok-None-clause-finds : goal.returns-in-Ok-None-clause-finds
returns-in-Ok-None-clause-finds g c = no_next _ _ _ _ (rw c.in-Ok-None.field-0-is at c.in-Ok-None.ensures.finds)

pub returns-in-Err-clause-finds : goal.returns-in-Err-clause-finds
returns-in-Err-clause-finds g c = no_first _ _ _ _ _ c.in-Err.ensures.finds

pub returns-in-None-clause-finds : goal.returns-in-None-clause-finds
returns-in-None-clause-finds g c = no_number _ _ _ _ _ (rw c.in-Ok-Some.field-0-is at c.in-Ok-Some.ensures.finds) (sym c.in-None.ensures)

pub returns-in-Ok-clause-finds : goal.returns-in-Ok-clause-finds
returns-in-Ok-clause-finds g c =
    whole_next _ _ _ _ _ _ _ (rw c.in-Ok-Some.field-0-is at c.in-Ok-Some.ensures.finds) _ (sym c.in-Some.ensures) _
    (rw c.kinds_of.ensures.kinds at c.in-Ok.ensures.finds)

pub returns-in-Err-arguments_of-clause-finds : goal.returns-in-Err-arguments_of-clause-finds
returns-in-Err-arguments_of-clause-finds g c =
    cut_next _ _ _ _ _ _ _ (rw c.in-Ok-Some.field-0-is at c.in-Ok-Some.ensures.finds) _ (sym c.in-Some.ensures) _
    (rw c.kinds_of.ensures.kinds at c.in-Err-arguments_of.ensures.finds)
