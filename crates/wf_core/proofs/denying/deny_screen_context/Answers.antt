use Rattle.std.proofs.Common.{ℕ}
use Rattle.std.proofs.Math.Facts.{to_z-of_z}
use Rattle.wf_scene.specs.declared.look.Seen.{Seen}
use Rattle.wf_model.specs.Core.{screen_context}
use Rattle.wf_objects.specs.Does.{context_made}
use Rattle.wf_objects.specs.Sides.{core_side_of}
use Rattle.wf_core.proofs.CreationsRefused.{denied_asking, denied_making, no_context}
use Rattle.wf_core.proofs.denying.deny_screen_context.Goals as goal

pub returns-in-Err : goal.returns-in-Err
returns-in-Err c =
    let a = c.args in
    denied_asking (λ m. screen_context a.device a.port a.screen m) (λ (x : ℕ × Seen). context_made a.device x.0 x.1) a.objects.now
    a.store.now c.in-Err.refusal c.requires.fits (rw (to_z-of_z c.ranges.port) at c.in-Err.ensures.asks)

pub returns-in-Ok : goal.returns-in-Ok
returns-in-Ok c =
    let a = c.args in
    let found = c.in-Ok.field-0 in
    denied_making (λ m. screen_context a.device a.port a.screen m) (λ (x : ℕ × Seen). context_made a.device x.0 x.1) a.objects.now
    a.store.now _ c.requires.fits found (rw (to_z-of_z c.ranges.port) at c.in-Ok.ensures.asks)
    (no_context (core_side_of a.objects.now a.store.now) _ a.device found.0 found.1 c.deny_context.ensures)
