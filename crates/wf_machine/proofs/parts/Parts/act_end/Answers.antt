use Rattle.wf_calls.specs.Places.{job_in}
use Rattle.wf_machine.proofs.ActsAreTheModels.{as_ended}
use Rattle.wf_machine.proofs.parts.Parts.act_end.Goals as goal

pub returns : goal.returns
returns c = as_ended _ _ _ (job_in c.args.place.now) _ c.end.ensures
