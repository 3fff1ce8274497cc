use Rattle.wf_model.specs.Core.{stream_context}
use Rattle.wf_objects.specs.Does.{as_other, context_made}
use Rattle.wf_core.proofs.CreationsRefused.{refused_asking}
use Rattle.wf_core.proofs.contexts.try_stream_context.Goals as goal

pub returns-in-Err : goal.returns-in-Err
returns-in-Err c =
    let a = c.args in
    refused_asking (stream_context a.device a.stream) (context_made a.device 0) a.objects.now a.store.now c.in-Err.refusal c.requires.fits
    c.in-Err.ensures.asks

pub returns-in-Ok : goal.returns-in-Ok
returns-in-Ok c =
    let a = c.args in
    as_other (stream_context a.device a.stream) (context_made a.device 0 c.in-Ok.target) a.objects.now _ a.store.now
    c.add_context.new.store _ c.in-Ok.ensures.asks c.add_context.ensures
