use Rattle.wf_machine.proofs.Common.{IsComposable, ap, subst, ◌∙◌, sym, Fits, next_shown, AreAtHome, not_some}
use Rattle.wf_objects.specs.Shows.{Shown}
use Rattle.wf_machine.proofs.ContextFrames.{next_fits}
use Rattle.wf_machine.proofs.parts.Parts.begin_next.Goals as goal
use Rattle.wf_machine.proofs.FrameBegunKeepsInvariant.{no_frame}
use Rattle.wf_machine.proofs.ImagesOfBegunFrame.{home_without}

pub begin_context-requires-clause-fits : goal.begin_context-requires-clause-fits
begin_context-requires-clause-fits c =
    let same = c.self.view_is in
    subst (λ scene. IsComposable c.args.self.now.streams c.shown.inside.target scene) (sym c.copy_from.ensures)
    (subst (λ (s : Shown). IsComposable c.args.self.now.streams s.target s.scene) (sym c.shown.view_is)
    (next_fits c.args.self.now _ c.in-Some.handle c.in-Some.shown (c.in-Some.ensures
    ∙ ap (λ s. next_shown c.args.after s.core) same) c.self.inside.store (ap (λ s. s.streams) same)
    (subst (λ core. Fits core c.self.inside.store) (ap (λ s. s.core) same) c.self.invariant.holds.fits)))

pub begin_context-requires-clause-home : goal.begin_context-requires-clause-home
begin_context-requires-clause-home c =
    subst (λ s. AreAtHome s.streams) c.self.view_is
    (home_without c.self.inside (no_frame c.self.inside _ c.self.view_is
    (not_some c.args.self.now.frame (sym c.is_busy.ensures ∙ c.if-is_busy.false))) c.self.invariant.holds)
