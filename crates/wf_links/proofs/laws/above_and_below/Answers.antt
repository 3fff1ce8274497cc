use Rattle.wf_links.proofs.Orderly.{below_above, above_below}
use Rattle.wf_links.proofs.laws.above_and_below.Goals as goal

pub returns : goal.returns
returns c = λ o node other orderly. (below_above node other o.lists orderly.once, above_below node other o.lists orderly.once)
