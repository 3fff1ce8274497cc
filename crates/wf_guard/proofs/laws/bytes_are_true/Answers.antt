use Rattle.wf_guard.proofs.OwnersTrue.{always_measured}
use Rattle.wf_guard.proofs.laws.bytes_are_true.Goals as goal

pub returns : goal.returns
returns l form ports turns = always_measured form ports turns
