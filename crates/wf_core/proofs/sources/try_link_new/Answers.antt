use Rattle.wf_objects.specs.Does.{as_other, link_made}
use Rattle.wf_core.specs.Links.{link_new}
use Rattle.wf_core.proofs.CreationsRefused.{refused_asking}
use Rattle.wf_core.proofs.sources.try_link_new.Goals as goal

pub returns-in-Err : goal.returns-in-Err
returns-in-Err c =
    let a = c.args in
    refused_asking (link_new a.mask a.device a.context a.stream) (link_made a.mask a.context) a.objects.now a.store.now c.in-Err.refusal
    c.requires.fits c.in-Err.ensures.asks

pub returns-in-Ok : goal.returns-in-Ok
returns-in-Ok c =
    let a = c.args in
    as_other (link_new a.mask a.device a.context a.stream) (link_made a.mask a.context c.in-Ok.number) a.objects.now _ a.store.now
    c.add_link.new.store _ c.in-Ok.ensures.asks c.add_link.ensures
