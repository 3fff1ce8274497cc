-- The next call of a program, and what takes its answer: what is true of each kind of them is true of a turn.
use Rattle.wf_turn.proofs.Common.{◌≡◌, ℕ, ◌+◌, Bool, true, false, cond, Option, Some, None, refl, subst, pos, IfSome, is_some, option_map}
use Rattle.wf_turn.proofs.Common.{Canvas, Paint, Call, Job, Reply, Line, Verb, Phase, Stage, Wanted, plain_call, Name, is_begin}
use Rattle.wf_turn.proofs.Common.{moves_frame}
use Rattle.wf_turn.proofs.Common.{Program, first_call, first_line, given_canvas, go_on, handle, line_done, next, plain, took}
use Rattle.wf_turn.proofs.Common.{took_at, took_canvas, took_first, took_frame, took_job, waiting, wanted_at}
use Rattle.wf_calls.specs.declared.call.Call.TheVariants as call
use Rattle.wf_script.specs.declared.line.Verb.TheVariants as verb
use Rattle.wf_turn.specs.declared.stage.Phase.TheVariants as phase
use Rattle.wf_turn.specs.declared.stage.Stage.TheVariants as stage

-- a line that is one call, and waits for nothing, neither begins nor ends a frame
plain_calls : (handle : Option Name → ℕ) (v : Verb) → IfSome (plain_call handle v) (λ c. moves_frame c ≡ false)
plain_calls handle (verb.Acquire s) = tt
plain_calls handle verb.Post = tt
plain_calls handle verb.Discard = tt
plain_calls handle (verb.Paint paint) = tt
plain_calls handle (verb.Frame s paint) = tt
plain_calls handle verb.Tick = tt
plain_calls handle (verb.Compose d c) = tt
plain_calls handle (verb.TryCompose d c) = tt
plain_calls handle _ = refl

-- the tick in which a frame is asked for: a port's frame waits, and is of the running tick, in which that port comes next; a new
-- tick begins with contexts
abbrev pub IsTick : Program → Wanted → ℕ → Type 0
IsTick p w tick = of_call w.call
  where
    of_call : Call → Type 0
    of_call (call.BeginPort port) = (n : ℕ) × (port ≡ pos n) × (w.wait ≡ true) × (p.tick ≡ tick) × (p.stage ≡ stage.Ticking (phase.Ports n))
    of_call (call.BeginNext after) = w.wait ≡ true
    of_call _ = Unit {0}

-- of what a program wants, and of the program behind the answer
module _ (p : Program) (T : Wanted → (Reply → Program) → Type 0) where
  -- calls that neither begin nor end a frame, of which a canvas or a value is taken, or which acquire for a line's frame;
  -- calls that begin a frame; and the end of the frame whose Job is held
  pub record Cases : Type 0 where
    pub canvas : (c : Call) → moves_frame c ≡ false → T (plain c) (λ reply. took_canvas p reply.payload)
    pub value : (c : Call) → moves_frame c ≡ false → T (plain c) (λ reply. line_done p reply.value)
    pub frame : (s : ℕ) (paint : Paint) → T (plain (call.Acquire s)) (λ reply. took_frame p paint (given_canvas reply.payload))
    pub asks : (w : Wanted) → is_begin w.call ≡ true → (tick : ℕ) (s : Stage) (next_of : ℕ → Option Phase) → IsTick p w tick
        → T w (λ reply. took_job (record p { tick = tick; stage = s }) reply.payload (next_of reply.value))
    pub ended : (job : Job) → p.job ≡ Some job → (l : Option Phase)
        → T (plain (call.End job)) (λ reply. go_on (record p { job = None; unpainted = false }) l)

  of_begin : (w x : Wanted) (now : Reply → Program) → Some x ≡ Some w → T x now → T w now
  of_begin w x now asks holds = (let is : x ≡ w = cc in subst (λ y. T y now) is holds)

  of_test : (w : Wanted) (b : Bool) (c : Call) (now : Reply → Program) → cond b None (Some (plain c)) ≡ Some w → T (plain c) now → T w now
  of_test w true c now asks holds = absurd cc
  of_test w false c now asks holds = (let is : plain c ≡ w = cc in subst (λ x. T x now) is holds)

  of_held : {A : Type 0} (w : Wanted) (o : Option A) (call_of : A → Call) (now : Reply → Program)
      → option_map (λ x. plain (call_of x)) o ≡ Some w → ((x : A) → o ≡ Some x → T (plain (call_of x)) now) → T w now
  of_held w None call_of now asks holds = absurd cc
  of_held w (Some x) call_of now asks holds = (let is : plain (call_of x) ≡ w = cc in subst (λ y. T y now) is (holds x refl))

  of_plain : (w : Wanted) → Cases → (o : Option Call) → option_map plain o ≡ Some w → IfSome o (λ c. moves_frame c ≡ false)
      → T w (λ reply. line_done p reply.value)
  of_plain w cases None asks still = absurd cc
  of_plain w cases (Some c) asks still =
      let is : plain c ≡ w = cc in
      subst (λ x. T x (λ reply. line_done p reply.value)) is (cases.value c still)

  canvas_goes : (w : Wanted) → Cases → (call_of : Canvas → Call) → ((c : Canvas) → moves_frame (call_of c) ≡ false)
      → option_map (λ c. plain (call_of c)) p.canvas ≡ Some w → T w (λ reply. took_canvas p reply.payload)
  canvas_goes w cases call_of still asks =
      of_held w p.canvas call_of (λ reply. took_canvas p reply.payload) asks (λ c held. cases.canvas (call_of c) (still c))

  first_case : (w : Wanted) → Cases → (l : Line) (v : Verb) → first_call p v ≡ Some w → T w (took_first p (record l { verb = v }))
  first_case w cases l (verb.Acquire s) asks =
      let acquire = call.Acquire (handle p s) in
      of_test w (is_some p.canvas) acquire (λ reply. took_canvas p reply.payload) asks (cases.canvas acquire refl)
  first_case w cases l verb.Post asks = canvas_goes w cases call.Post (λ c. refl) asks
  first_case w cases l verb.Discard asks = canvas_goes w cases call.Discard (λ c. refl) asks
  first_case w cases l (verb.Paint paint) asks = absurd cc
  first_case w cases l (verb.Frame s paint) asks =
      of_test w (is_some p.canvas) (call.Acquire (handle p s)) (λ reply. took_frame p paint (given_canvas reply.payload)) asks
      (cases.frame (handle p s) paint)
  first_case w cases l verb.Tick asks =
      of_begin w (waiting (call.BeginNext 0)) (took_first p (record l { verb = verb.Tick })) asks
      (cases.asks (waiting (call.BeginNext 0)) refl (p.tick + 1) (stage.Ticking (phase.Contexts 0 0)) (λ v. Some (phase.Contexts 1 v))
      refl)
  first_case w cases l (verb.Compose d c) asks =
      let begins = waiting (call.BeginContext (handle p d) (handle p c)) in
      of_begin w begins (took_first p (record l { verb = verb.Compose d c })) asks
      (cases.asks begins refl p.tick p.stage (λ v. None) tt)
  first_case w cases l (verb.TryCompose d c) asks =
      let begins = plain (call.BeginContext (handle p d) (handle p c)) in
      of_begin w begins (took_first p (record l { verb = verb.TryCompose d c })) asks
      (cases.asks begins refl p.tick p.stage (λ v. None) tt)
  first_case w cases l v asks = of_plain w cases (plain_call (handle p) v) asks (plain_calls (handle p) v)

  stage_case : (w : Wanted) → Cases → (l : Line) (s : Stage) → p.stage ≡ s → wanted_at p l.verb s ≡ Some w
      → T w (λ reply. took_at p l reply s)
  stage_case w cases l stage.Fresh is asks = first_case w cases l l.verb asks
  stage_case w cases l stage.Posting is asks = canvas_goes w cases call.Post (λ c. refl) asks
  stage_case w cases l (stage.Ticking (phase.Contexts asked last)) is asks =
      of_begin w (waiting (call.BeginNext last)) (λ reply. took_job p reply.payload (Some (phase.Contexts (asked + 1) reply.value))) asks
      (cases.asks (waiting (call.BeginNext last)) refl p.tick p.stage (λ v. Some (phase.Contexts (asked + 1) v)) refl)
  stage_case w cases l (stage.Ticking (phase.Ports port)) is asks =
      of_begin w (waiting (call.BeginPort (pos port))) (λ reply. took_job p reply.payload (Some (phase.Ports (port + 1)))) asks
      (cases.asks (waiting (call.BeginPort (pos port))) refl p.tick p.stage (λ v. Some (phase.Ports (port + 1)))
      (port, refl, refl, refl, is))
  stage_case w cases l (stage.Ending m) is asks =
      of_held w p.job call.End (λ reply. go_on (record p { job = None; unpainted = false }) m) asks (λ job held. cases.ended job held m)

  pub turn_case : (w : Wanted) → Cases → next p ≡ Some w → T w (λ reply. took p reply)
  turn_case w cases asks = of_line (first_line p) refl
    where
      of_line : (o : Option Line) → first_line p ≡ o → T w (λ reply. took p reply)
      of_line None none = absurd (let no : None ≡ Some w = rw none at asks in cc)
      of_line (Some l) is = rw is (stage_case w cases l p.stage refl (rw is at asks))
