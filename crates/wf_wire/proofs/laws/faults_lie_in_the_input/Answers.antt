use Rattle.wf_wire.proofs.Within.{fault_within}
use Rattle.wf_wire.proofs.laws.faults_lie_in_the_input.Goals as goal

pub returns : goal.returns
returns c = fault_within
