use Rattle.wf_links.proofs.Orderly.{is_put}
use Rattle.wf_links.proofs.laws.inserted_above.Goals as goal

pub returns-clause-list : goal.returns-clause-list
returns-clause-list c = λ o list node base orderly may.
    (is_put o.lists list node base orderly.once may.is_list may.is_free may.is_base).in_list

pub returns-clause-base : goal.returns-clause-base
returns-clause-base c = λ o list node base orderly may.
    (is_put o.lists list node base orderly.once may.is_list may.is_free may.is_base).above_base
