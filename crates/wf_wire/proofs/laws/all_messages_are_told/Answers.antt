use Rattle.wf_wire.proofs.Within.{tells_all}
use Rattle.wf_wire.proofs.laws.all_messages_are_told.Goals as goal

pub returns : goal.returns
returns c = tells_all
