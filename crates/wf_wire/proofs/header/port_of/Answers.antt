use Rattle.wf_wire.proofs.Headers.{no_height, no_width, whole_port}
use Rattle.wf_wire.proofs.header.port_of.Goals as goal

pub returns-in-Err-clause-finds : goal.returns-in-Err-clause-finds
returns-in-Err-clause-finds g c = no_width _ _ _ _ _ c.in-Err.ensures.finds

pub returns-in-Ok-number_within-clause-finds : goal.returns-in-Ok-number_within-clause-finds
returns-in-Ok-number_within-clause-finds g c =
    rw c.mode_of.ensures (whole_port _ _ _ _ _ _ _ c.in-Ok.ensures.finds _ c.in-Ok-number_within.ensures.finds)

pub returns-in-Err-number_within-clause-finds : goal.returns-in-Err-number_within-clause-finds
returns-in-Err-number_within-clause-finds g c = no_height _ _ _ _ _ _ _ c.in-Ok.ensures.finds _ c.in-Err-number_within.ensures.finds
