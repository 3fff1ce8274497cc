use Rattle.wf_links.proofs.Orderly.{is_put}
use Rattle.wf_links.proofs.laws.inserted_and_removed.Goals as goal

pub returns : goal.returns
returns c = λ o list node base orderly may.
    (is_put o.lists list node base orderly.once may.is_list may.is_free may.is_base).back
