use Rattle.wf_script.proofs.MadeStands.{made_lines}
use Rattle.wf_script.proofs.laws.made_scripts_have_seven_lines_and_thirteen_a_round.Goals as goal

pub returns : goal.returns
returns c = λ n some few. made_lines n few
