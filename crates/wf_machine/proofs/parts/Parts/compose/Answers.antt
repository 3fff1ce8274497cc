use Rattle.wf_machine.proofs.Common.{◌≡◌, ap, subst, ◌∙◌, sym, Fits, State, AreAtHome, IsAnswer, IsComposable, not_some}
use Rattle.wf_calls.specs.Parts.{no_register}
use Rattle.wf_calls.specs.Places.{job_in}
use Rattle.wf_calls.specs.Replies.{with_job}
use Rattle.wf_model.specs.Frames.{begin_composed, begin_context, started}
use Rattle.wf_objects.specs.Shows.{Shown, shown_context}
use Rattle.wf_machine.proofs.FrameBegunKeepsInvariant.{no_frame}
use Rattle.wf_machine.proofs.ImagesOfBegunFrame.{home_without}
use Rattle.wf_machine.proofs.ContextFrames.{asked_fits, asked_free, asked_is}
use Rattle.wf_machine.proofs.parts.Parts.compose.Goals as goal

pub begin_context-requires-clause-home : goal.begin_context-requires-clause-home
begin_context-requires-clause-home c =
    subst (λ s. AreAtHome s.streams) c.self.view_is
    (home_without c.self.inside (no_frame c.self.inside _ c.self.view_is
    (not_some c.args.self.now.frame (sym c.is_busy.ensures ∙ c.if-is_busy.false))) c.self.invariant.holds)

pub begin_context-requires-clause-fits : goal.begin_context-requires-clause-fits
begin_context-requires-clause-fits c =
    let same = c.self.view_is in
    subst (λ scene. IsComposable c.args.self.now.streams c.shown.inside.target scene) (sym c.copy_from.ensures)
    (subst (λ (s : Shown). IsComposable c.args.self.now.streams s.target s.scene) (sym c.shown.view_is)
    (asked_fits c.args.self.now c.args.device c.args.context c.in-Ok.shown (c.in-Ok.ensures
    ∙ ap (λ s. shown_context c.args.device c.args.context s.core) same) c.self.inside.store (ap (λ s. s.streams) same)
    (subst (λ core. Fits core c.self.inside.store) (ap (λ s. s.core) same) c.self.invariant.holds.fits)))

module _ (c : goal.After-begin_context) where
  abbrev h : State
  h = c.args.self.now

  begun : begin_composed c.args.device c.args.context h ≡ begin_context 0 c.args.context c.shown.inside.target c.copy_from.new.self h
  begun =
      asked_is h c.args.device c.args.context c.in-Ok.shown (c.in-Ok.ensures
      ∙ ap (λ s. shown_context c.args.device c.args.context s.core) c.self.view_is)
      ∙ asked_free c.args.context c.in-Ok.shown h (ap (λ (s : Shown). s.active) (sym c.shown.view_is) ∙ c.if-shown.false)
      (sym c.is_busy.ensures ∙ c.if-is_busy.false)
      ∙ ap (λ (s : Shown). begin_context 0 c.args.context s.target s.scene h) (sym c.shown.view_is)
      ∙ ap (λ scene. begin_context 0 c.args.context c.shown.inside.target scene h) (sym c.copy_from.ensures)

pub returns-clause-left : goal.returns-clause-left
returns-clause-left c = c.begin_context.ensures.left ∙ ap (λ r. (started no_register c.args.self.now r).0) (sym (begun c))

pub returns-clause-answer : goal.returns-clause-answer
returns-clause-answer c =
    subst (λ r. IsAnswer (started no_register c.args.self.now r).1 (with_job c.begin_context.result (job_in c.begin_context.new.place)))
    (sym (begun c)) c.begin_context.ensures.answer
