use Rattle.wf_check.proofs.OneVerdict.{one_verdict}
use Rattle.wf_check.proofs.laws.one_verdict_at_most.Goals as goal

pub returns : goal.returns
returns c = λ script bytes one other first second. one_verdict script bytes one other first second
