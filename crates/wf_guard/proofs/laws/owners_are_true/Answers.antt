use Rattle.wf_guard.proofs.OwnersTrue.{always_true}
use Rattle.wf_guard.proofs.laws.owners_are_true.Goals as goal

pub returns : goal.returns
returns l form ports requests = always_true form ports requests
