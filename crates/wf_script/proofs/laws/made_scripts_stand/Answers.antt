use Rattle.wf_script.proofs.MadeStands.{made_stands}
use Rattle.wf_script.proofs.laws.made_scripts_stand.Goals as goal

pub returns : goal.returns
returns c = λ n some few. made_stands n few
