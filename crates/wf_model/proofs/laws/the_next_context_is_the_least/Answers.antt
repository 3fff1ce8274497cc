use Rattle.wf_model.proofs.ContextsRise.{contexts_rise, next_is_least}
use Rattle.wf_model.proofs.laws.the_next_context_is_the_least.Goals as goal

pub returns : goal.returns
returns k = λ ports calls after c is. next_is_least after 0 _ c _ (contexts_rise ports calls) is
