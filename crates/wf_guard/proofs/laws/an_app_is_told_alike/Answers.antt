use Rattle.wf_guard.proofs.Runs.{told_alike}
use Rattle.wf_guard.proofs.laws.an_app_is_told_alike.Goals as goal

pub returns : goal.returns
returns l form other ports screens turns others a app runs = told_alike a app form other ports screens turns others runs
