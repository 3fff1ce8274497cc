-- A turn and the running frame: a frame that begins is held by the program that began it, to be ended next.
use Rattle.wf_turn.proofs.Common.{unheld}
use Rattle.wf_turn.proofs.Common.{◌≡◌, ◌∙◌, ℕ, Bool, true, false, [], Option, Some, None, refl, sym, ap, subst, IfSome, Call, Job, Reply}
use Rattle.wf_turn.proofs.Common.{Running, State, act, step, Line, Phase, Stage, Wanted, Ends, Program, first_line, given_canvas, go_on}
use Rattle.wf_turn.proofs.Common.{line_done, next, plain, took, took_canvas, took_frame, took_job, worked, frames_of}
use Rattle.wf_turn.proofs.Common.{moves_frame, effect, is_begin, by_begin}
use Rattle.wf_calls.specs.declared.call.Call.TheVariants as call
use Rattle.wf_turn.specs.declared.stage.Stage.TheVariants as stage
use Rattle.wf_turn.specs.Playing.{EndsAt}
use Rattle.wf_turn.proofs.Cases.{turn_case}
use Rattle.wf_turn.proofs.JobIsTheRunningFrames.{own_job}
use Rattle.wf_turn.proofs.JobCanBePainted.{canvas_painted, frame_painted, done_painted, on_painted}
use Rattle.wf_model.specs.Effects.{frame_stays, offered_frame}
use Rattle.wf_model.specs.Registers.{offered}

-- what is known of a program and of the running frame after a turn: the program holds the frame's Job, and its lines are
-- the same; without a running frame it shows nothing
pub record Leaves (p now : Program) (frame : Option Running) : Type 0 where
  pub ends : IfSome frame (λ f. Ends f (worked now) × (now.lines ≡ p.lines))
  pub shows : frame ≡ None → (begin : ℕ) → frames_of begin now ≡ []

no_frame : (p now : Program) (o : Option Running) → o ≡ None → now.unpainted ≡ false → Leaves p now o
no_frame p now o none painted = record { ends = rw none tt; shows = λ free begin. rw painted refl }

-- a turn while no frame runs
module _ (p : Program) (h : State) (client : ℕ) (m : Bool) (free : h.frame ≡ None) (painted : p.unpainted ≡ false) where
  -- what is known after the answer to a call
  abbrev Left : Wanted → (Reply → Program) → Type 0
  Left w now = Leaves p (now (step h client w.call m).1) (step h client w.call m).0.frame

  -- a call that neither begins nor ends a frame
  at_still : (c : Call) → moves_frame c ≡ false → (now : Reply → Program) → ((reply : Reply) → (now reply).unpainted ≡ false)
      → Left (plain c) now
  unfolding step
  at_still c still now clean =
      let reply = (step h client c m).1 in
      no_frame p (now reply) (step h client c m).0.frame (frame_stays h c (act h c m) (effect h c m) still ∙ free) (clean reply)

  -- a question begins a frame, or none
  at_question : (w : Wanted) → is_begin w.call ≡ true → (q : Program) (next_of : ℕ → Option Phase) → q.unpainted ≡ false
      → q.lines ≡ p.lines → Left w (λ reply. took_job q reply.payload (next_of reply.value))
  unfolding step
  at_question w begin q next_of clean same =
      by_begin (λ x. Leaves p (took_job q x.1.payload (next_of x.1.value)) x.0.frame) h w.call m begin
      (λ register code a. no_frame p (go_on (unheld q) (next_of a.value)) (offered register code h).frame
      (offered_frame register code h ∙ free) (on_painted (unheld q) refl (next_of a.value)))
      (λ b is. record { ends = (own_job b h, same); shows = λ none begin. absurd cc })

  at_end : (job : Job) (l : Option Phase) → Left (plain (call.End job)) (λ reply. go_on (record p { job = None; unpainted = false }) l)
  unfolding step act
  at_end job l =
      let q = record p { job = None; unpainted = false } in
      no_frame p (go_on q l) (step h client (call.End job) m).0.frame (rw free refl) (on_painted q refl l)

  pub turn_leaves : (w : Wanted) → next p ≡ Some w → Left w (took p)
  turn_leaves w asks =
      turn_case p Left w
      (record {
        canvas = λ c still. at_still c still (λ reply. took_canvas p reply.payload) (canvas_painted p painted);
        value = λ c still. at_still c still (λ reply. line_done p reply.value) (λ reply. done_painted p painted reply.value);
        frame = λ s paint.
            at_still (call.Acquire s) refl (λ reply. took_frame p paint (given_canvas reply.payload))
            (λ reply. frame_painted p painted paint (given_canvas reply.payload));
        asks = λ w begins tick s next_of at. at_question w begins (record p { tick = tick; stage = s }) next_of painted refl;
        ended = λ job held l. at_end job l;
      }) asks

pub nothing_shown : (begin : ℕ) (q : Program) → q.unpainted ≡ false → frames_of begin q ≡ []
nothing_shown begin q painted = rw painted refl

-- a turn of the program that ends the running frame
module _ (p : Program) (h : State) (client : ℕ) (m : Bool) (w : Wanted) (f : Running) (runs : h.frame ≡ Some f) (ends : Ends f p)
    (asks : next p ≡ Some w) where
  -- it does not wait, no frame runs behind it, and it shows nothing
  pub record Ended : Type 0 where
    pub plain_is : w.wait ≡ false
    pub free : (step h client w.call m).0.frame ≡ None
    pub shows : (begin : ℕ) → frames_of begin (took p (step h client w.call m).1) ≡ []

  at_job : (l : Line) (phase : Option Phase) (o : Option Job) → first_line p ≡ Some l → p.stage ≡ stage.Ending phase → p.job ≡ o
      → EndsAt o f (stage.Ending phase) → Ended
  unfolding step act
  at_job l phase None is at job own = absurd own
  at_job l phase (Some j) is at job own =
      let wanted : Some (plain (call.End j)) ≡ Some w = rw (is, at, job) at asks in
      let is_end : plain (call.End j) ≡ w = cc in
      record {
        plain_is = ap (λ y. y.wait) (sym is_end);
        free = subst (λ y. (step h client y.call m).0.frame ≡ None) is_end (rw (runs, own) refl);
        shows = λ begin.
            let q : Program = go_on (record p { job = None; unpainted = false }) phase in
            let goes : took p (step h client w.call m).1 ≡ q = rw (is, at) refl in
            ap (frames_of begin) goes ∙ nothing_shown begin q (on_painted (record p { job = None; unpainted = false }) refl phase);
      }

  at_stage : (l : Line) (s : Stage) → first_line p ≡ Some l → p.stage ≡ s → EndsAt p.job f s → Ended
  at_stage l stage.Fresh is at own = absurd own
  at_stage l stage.Posting is at own = absurd own
  at_stage l (stage.Ticking phase) is at own = absurd own
  at_stage l (stage.Ending phase) is at own = at_job l phase p.job is at refl own

  pub ended : Ended
  ended = of_line (first_line p) refl
    where
      of_line : (o : Option Line) → first_line p ≡ o → Ended
      of_line None none = absurd (let no : None ≡ Some w = rw none at asks in cc)
      of_line (Some l) is = at_stage l p.stage is refl ends
