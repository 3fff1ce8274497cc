use Rattle.wf_objects.specs.Rows.{context_of}
use Rattle.wf_objects.proofs.Owners.{standing}
use Rattle.wf_objects.proofs.objects.Objects.deny_element.Goals as goal

pub returns : goal.returns
returns c =
    let a = c.args in
    let core = a.self.now in
    let x = context_of c.behind-self.inside in
    let at = standing _ core a.place _ x c.self.view_is c.requires c.index.ensures c.behind-self.view_is in
    rw (at, ← c.count.ensures.count) (c.deny.ensures core)
