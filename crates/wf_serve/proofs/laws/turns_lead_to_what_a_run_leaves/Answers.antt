use Rattle.wf_serve.proofs.Turned.{turned}
use Rattle.wf_serve.proofs.laws.turns_lead_to_what_a_run_leaves.Goals as goal

pub returns : goal.returns
returns c form ports ms w ans fs runs =
    turned form ports (λ ts k. c.who_leaves_asks_for_it.ensures form ports ts k) ms w ans fs runs
