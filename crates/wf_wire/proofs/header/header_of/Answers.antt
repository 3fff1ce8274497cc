use Rattle.wf_wire.proofs.Headers.{no_count, no_magic, no_pipes, no_ports, whole_header}
use Rattle.wf_wire.proofs.header.header_of.Goals as goal

pub returns-in-Err-clause-finds : goal.returns-in-Err-clause-finds
returns-in-Err-clause-finds g c = no_magic _ _ _ _ _ c.in-Err.ensures.finds

pub returns-in-Err-number_within-clause-finds : goal.returns-in-Err-number_within-clause-finds
returns-in-Err-number_within-clause-finds g c = no_count _ _ _ _ _ c.in-Ok.ensures.finds _ _ _ c.in-Err-number_within.ensures.finds

pub returns-in-Err-ports_of-clause-finds : goal.returns-in-Err-ports_of-clause-finds
returns-in-Err-ports_of-clause-finds g c =
    no_ports _ _ _ _ _ c.in-Ok.ensures.finds _ _ _ c.in-Ok-number_within.ensures.finds _ _ _ c.in-Err-ports_of.ensures.finds

pub returns-in-Ok-number_within-2-clause-finds : goal.returns-in-Ok-number_within-2-clause-finds
returns-in-Ok-number_within-2-clause-finds g c =
    whole_header _ _ _ _ _ c.in-Ok.ensures.finds _ _ _ c.in-Ok-number_within.ensures.finds _ _ _ c.in-Ok-ports_of.ensures.finds _ _ _
    c.in-Ok-number_within-2.ensures.finds

pub returns-in-Err-number_within-2-clause-finds : goal.returns-in-Err-number_within-2-clause-finds
returns-in-Err-number_within-2-clause-finds g c =
    no_pipes _ _ _ _ _ c.in-Ok.ensures.finds _ _ _ c.in-Ok-number_within.ensures.finds _ _ _ c.in-Ok-ports_of.ensures.finds _ _ _
    c.in-Err-number_within-2.ensures.finds
