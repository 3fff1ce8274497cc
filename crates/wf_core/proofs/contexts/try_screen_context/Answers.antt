use Rattle.std.proofs.Common.{ℕ}
use Rattle.std.proofs.Math.Facts.{to_z-of_z}
use Rattle.wf_scene.specs.declared.look.Seen.{Seen}
use Rattle.wf_model.specs.Core.{screen_context}
use Rattle.wf_objects.specs.Does.{as_other, context_made}
use Rattle.wf_core.proofs.CreationsRefused.{refused_asking}
use Rattle.wf_core.proofs.contexts.try_screen_context.Goals as goal

pub returns-in-Err : goal.returns-in-Err
returns-in-Err c =
    let a = c.args in
    refused_asking (λ m. screen_context a.device a.port a.screen m) (λ (x : ℕ × Seen). context_made a.device x.0 x.1) a.objects.now
    a.store.now c.in-Err.refusal c.requires.fits (rw (to_z-of_z c.ranges.port) at c.in-Err.ensures.asks)

pub returns-in-Ok : goal.returns-in-Ok
returns-in-Ok c =
    let a = c.args in
    as_other (λ m. screen_context a.device a.port a.screen m) (context_made a.device c.in-Ok.port c.in-Ok.target) a.objects.now _
    a.store.now
    c.add_context.new.store _ (rw (to_z-of_z c.ranges.port) at c.in-Ok.ensures.asks) c.add_context.ensures
