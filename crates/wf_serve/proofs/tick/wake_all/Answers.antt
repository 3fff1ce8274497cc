use Rattle.wf_serve.specs.Ticks.{woken}
use Rattle.wf_serve.proofs.tick.wake_all.Goals as goal

pub returns : goal.returns
unfolding woken
returns c = c.wake.ensures
