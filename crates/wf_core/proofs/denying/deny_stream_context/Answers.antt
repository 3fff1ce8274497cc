use Rattle.wf_model.specs.Core.{stream_context}
use Rattle.wf_objects.specs.Does.{context_made}
use Rattle.wf_objects.specs.Sides.{core_side_of}
use Rattle.wf_core.proofs.CreationsRefused.{denied_asking, denied_making, no_context}
use Rattle.wf_core.proofs.denying.deny_stream_context.Goals as goal

pub returns-in-Err : goal.returns-in-Err
returns-in-Err c =
    let a = c.args in
    denied_asking (stream_context a.device a.stream) (context_made a.device 0) a.objects.now a.store.now c.in-Err.refusal c.requires
    c.in-Err.ensures.asks

pub returns-in-Ok : goal.returns-in-Ok
returns-in-Ok c =
    let a = c.args in
    let found = c.in-Ok.field-0 in
    denied_making (stream_context a.device a.stream) (context_made a.device 0) a.objects.now a.store.now _ c.requires
    found c.in-Ok.ensures.asks (no_context (core_side_of a.objects.now a.store.now) _ a.device 0 found c.deny_context.ensures)
