use Rattle.wf_script.proofs.LineJudged.{script_judged}
use Rattle.wf_script.proofs.laws.scripts_are_refused_at_their_first_fault.Goals as goal

pub returns : goal.returns
returns c = script_judged
