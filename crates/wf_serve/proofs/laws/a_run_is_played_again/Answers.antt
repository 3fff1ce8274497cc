use Rattle.wf_serve.proofs.Again.{again}
use Rattle.wf_serve.proofs.laws.a_run_is_played_again.Goals as goal

pub returns : goal.returns
returns l ms v w ans fs runs = again ms v w ans fs runs
