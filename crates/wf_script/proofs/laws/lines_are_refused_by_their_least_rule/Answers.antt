use Rattle.wf_script.proofs.LineJudged.{line_judged}
use Rattle.wf_script.proofs.laws.lines_are_refused_by_their_least_rule.Goals as goal

pub returns : goal.returns
returns c = line_judged
