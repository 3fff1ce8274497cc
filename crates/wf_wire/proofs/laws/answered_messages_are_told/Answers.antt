use Rattle.wf_wire.proofs.ToldInARow.{are_told}
use Rattle.wf_wire.proofs.laws.answered_messages_are_told.Goals as goal

pub returns : goal.returns
returns c = are_told
