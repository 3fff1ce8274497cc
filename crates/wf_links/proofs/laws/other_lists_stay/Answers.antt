use Rattle.std.proofs.Common.{[], ◌∙◌, get_or-set_other}
use Rattle.wf_links.specs.Lists.{list_at, put_above}
use Rattle.wf_links.proofs.Members.{without_absent}
use Rattle.wf_links.proofs.Removed.{at_removed}
use Rattle.wf_links.proofs.laws.other_lists_stay.Goals as goal

pub returns-clause-inserted : goal.returns-clause-inserted
returns-clause-inserted c = λ lists list node i base other.
    get_or-set_other lists list i (put_above base node (list_at list lists)) [] other

pub returns-clause-removed : goal.returns-clause-removed
returns-clause-removed c = λ lists node i absent. at_removed node lists i ∙ without_absent node (list_at i lists) absent
