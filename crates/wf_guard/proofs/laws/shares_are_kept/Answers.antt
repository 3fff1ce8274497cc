use Rattle.wf_guard.proofs.Shares.{always_keep}
use Rattle.wf_guard.proofs.laws.shares_are_kept.Goals as goal

pub returns : goal.returns
returns l form ports turns client = always_keep form ports turns client
