use Rattle.wf_objects.specs.Does.{link_made}
use Rattle.wf_objects.specs.Sides.{core_side_of}
use Rattle.wf_core.specs.Links.{link_new}
use Rattle.wf_core.proofs.CreationsRefused.{denied_asking, denied_making, no_link}
use Rattle.wf_core.proofs.denying.deny_link.Goals as goal

pub returns-in-Err : goal.returns-in-Err
returns-in-Err c =
    let a = c.args in
    denied_asking (link_new a.mask a.device a.context a.stream) (link_made a.mask a.context) a.objects.now a.store.now c.in-Err.refusal
    c.requires c.in-Err.ensures.asks

pub returns-in-Ok : goal.returns-in-Ok
returns-in-Ok c =
    let a = c.args in
    let found = c.in-Ok.field-0 in
    denied_making (link_new a.mask a.device a.context a.stream) (link_made a.mask a.context) a.objects.now a.store.now _ c.requires
    found c.in-Ok.ensures.asks (no_link (core_side_of a.objects.now a.store.now) _ a.mask a.context found c.deny_link.ensures)
