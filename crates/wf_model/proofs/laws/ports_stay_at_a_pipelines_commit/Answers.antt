use Rattle.wf_model.specs.Kept.{ports_stay}
use Rattle.wf_model.proofs.laws.ports_stay_at_a_pipelines_commit.Goals as goal

pub returns : goal.returns
returns c pipe w = ports_stay pipe w
