use Rattle.wf_machine.proofs.Common.{length}
use Rattle.wf_machine.proofs.latching.empty.Given as goal

abbrev pub decreases-loop : goal.decreases-loop
decreases-loop l = length l.contents
