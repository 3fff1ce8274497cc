use Rattle.wf_links.specs.Lists.{list_at}
use Rattle.wf_links.proofs.Orderly.{one_at_most, once_at, once_counted}
use Rattle.wf_links.proofs.laws.one_list_at_most.Goals as goal

pub returns-clause-list : goal.returns-clause-list
returns-clause-list c = λ o node i j orderly in_i in_j. one_at_most node o.lists i j orderly.once in_i in_j

pub returns-clause-once : goal.returns-clause-once
returns-clause-once c = λ o node i orderly. once_counted node (list_at i o.lists) (once_at o.lists i orderly.once)
