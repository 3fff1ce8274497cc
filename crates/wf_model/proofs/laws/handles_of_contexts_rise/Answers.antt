use Rattle.wf_model.proofs.ContextsRise.{contexts_rise}
use Rattle.wf_model.proofs.laws.handles_of_contexts_rise.Goals as goal

pub returns : goal.returns
returns k = λ ports calls. contexts_rise ports calls
