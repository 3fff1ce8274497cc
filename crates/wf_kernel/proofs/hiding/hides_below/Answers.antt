use Rattle.std.proofs.Common.{ap, subst, sym, ◌∙◌}
use Rattle.std.specs.Prelude.{IsTrue}
use Rattle.std.specs.Option.{option_copied}
use Rattle.wf_pixel.specs.declared.Format.{Format}
use Rattle.wf_scene.specs.declared.Layer.{Layer}
use Rattle.wf_kernel.specs.Hiding.{stays_opaque}
use Rattle.wf_kernel.proofs.Covers.{covers}
use Rattle.wf_kernel.proofs.hiding.hides_below.Goals as goal

pub returns-then-not-layer : goal.returns-then-not-layer
returns-then-not-layer c = λ t b layer source.
    let image = c.in-Some.image.now in
    let stays = subst (λ (f : Format). IsTrue (stays_opaque c.args.layer.now f)) c.format.ensures (c.stays_opaque.ensures t) in
    covers b image (source ∙ ap option_copied c.in-Some.is) (ap (λ (l : Layer). l.transparency.mask) layer ∙ c.if-not-layer.true)
    (subst (λ (l : Layer). IsTrue (stays_opaque l image.format)) (sym layer) stays)
