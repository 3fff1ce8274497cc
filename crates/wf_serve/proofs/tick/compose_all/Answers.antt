use Rattle.wf_serve.specs.Ticks.{composed_all}
use Rattle.wf_serve.proofs.tick.compose_all.Goals as goal

pub returns-clause-machine : goal.returns-clause-machine
unfolding composed_all
returns-clause-machine c = c.compose.ensures.machine
