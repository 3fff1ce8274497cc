use Rattle.wf_show.specs.Running.{RunsSoFar}
use Rattle.wf_show.proofs.client.run_client.Given as goal

abbrev pub invariant-loop-wanted : goal.invariant-loop-wanted
invariant-loop-wanted g l = RunsSoFar l.initial.program l.program l.initial.pass l.pass

abbrev pub decreases-loop-wanted : goal.decreases-loop-wanted
decreases-loop-wanted g l = l.pass.left
