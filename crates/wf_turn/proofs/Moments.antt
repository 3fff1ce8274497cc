-- Each frame of an order is what a port shows at a moment of it.
use Rattle.wf_turn.proofs.Common.{unheld}
use Rattle.wf_turn.proofs.Common.{◌≡◌, ℕ, Bool, true, false, List, [], ◌++◌, Some, None, refl, sym, subst, get_or, Ok, ap, pos, All}
use Rattle.wf_turn.proofs.Common.{All-cons, All-nil, Call, Reply, Turn, entry, Frame, frame_of, job_of, Beginning, begin_call, is_begin}
use Rattle.wf_turn.proofs.Common.{start, State, step, PlainScript, Phase, Wanted, Begins, IsOfMoment, frames_after, is_marked, replay}
use Rattle.wf_turn.proofs.Common.{given_canvas, go_on, line_done, next, painted_job, Program, took, took_canvas, took_frame, took_job}
use Rattle.wf_turn.proofs.Common.{worked, plain, Show, frames_of, shown, turn, program_at, each_at, Stage, by_begin, next_is}
use Rattle.wf_turn.proofs.Common.{port_is, bare, waiting, ◌∙◌, Option}
use Rattle.std.proofs.lemmas.List.Elements.{All-append}
use Rattle.wf_calls.specs.declared.call.Call.TheVariants as call
use Rattle.wf_model.specs.Display.{begun_display}
use Rattle.wf_model.specs.Frames.{port_beginning}
use Rattle.wf_turn.proofs.FrameOfATurn.{nothing_shown}
use Rattle.wf_model.specs.Beginnings.{IsOfContext, composed_is}
use Rattle.wf_model.specs.Objects.{Context}
use Rattle.wf_turn.proofs.Cases.{turn_case, IsTick}
use Rattle.wf_turn.proofs.JobThatIsHeld.{Holds, AllHold, issued_hold, opening_hold}
use Rattle.wf_turn.proofs.AnswersKeep.{worked_painted}
use Rattle.wf_turn.proofs.JobCanBePainted.{canvas_painted, frame_painted, IsPainted, done_painted, on_painted}
use Rattle.wf_turn.proofs.Replays.{Step, at_step, order_keeps, taken_turn, turn_of}

-- the turn of a program: what it shows behind the answer, the entry of the answer tells
module _ (show : Show) (client : ℕ) (m : Bool) (p : Program) (stands : program_at show client ≡ Some p) (painted : p.unpainted ≡ false)
  where
    abbrev h : State
    h = show.state

    abbrev AreBegun : Turn → List Frame → Type 0
    AreBegun t frames = All (λ f. Begins f show t) frames

    none_begun : (t : Turn) (q : Program) → q.unpainted ≡ false → AreBegun t (frames_of show.turns q)
    none_begun t q clean = subst (AreBegun t) (sym (nothing_shown show.turns q clean)) (All-nil (λ f. Begins f show t))

    abbrev Told : Wanted → (Reply → Program) → Type 0
    Told w now =
        let reply = (step h client w.call m).1 in
        next p ≡ Some w → AreBegun (entry client reply) (frames_of show.turns (now reply))

    -- a call whose answer brings no Job
    at_other : (c : Call) (now : Reply → Program) → ((reply : Reply) → (now reply).unpainted ≡ false) → Told (plain c) now
    at_other c now clean asks = (let reply = (step h client c m).1 in none_begun (entry client reply) (now reply) (clean reply))

    -- a frame of a context shows nothing
    of_context : (c : Context) (tick : ℕ) (b : Beginning) → IsOfContext c h b
        → AreBegun (entry client (start b h).1) (shown b.kind tick show.turns (painted_job (job_of b h)))
    of_context c tick b own =
        let t = entry client (start b h).1 in
        subst (λ k. AreBegun t (shown k tick show.turns (painted_job (job_of b h)))) (sym (ap (λ x. x.kind) own.is))
        (All-nil (λ f. Begins f show t))

    -- a frame of a port shows what the port shows
    of_port : (n tick : ℕ) → p.tick ≡ tick → next p ≡ Some (waiting (call.BeginPort (pos n))) → (b : Beginning)
        → begin_call (call.BeginPort (pos n)) h ≡ Ok (Some b)
        → AreBegun (entry client (start b h).1) (shown b.kind tick show.turns (painted_job (job_of b h)))
    of_port n tick at asks b is =
        let own = port_is (pos n) h b is in
        let its = port_beginning (pos n) (begun_display n h.display) own.scene in
        let t = entry client (start its h).1 in
        subst (λ x. AreBegun (entry client (start x h).1) (shown x.kind tick show.turns (painted_job (job_of x h)))) (sym own.is)
        (All-cons (λ f. Begins f show t) (frame_of n tick show.turns (painted_job (job_of its h)).image) []
        (record {
          asks = record { program = p; own = stands; next_is = asks };
          tick = at;
          place = refl;
          code = refl;
          value = refl;
          shows = rw own.shows refl;
        })
        (All-nil (λ f. Begins f show t)))

    -- a frame that is asked for
    begun : (c : Call) (wait : Bool) (tick : ℕ) → IsTick p (record { call = c; wait = wait }) tick
        → next p ≡ Some (record { call = c; wait = wait }) → is_begin c ≡ true → (b : Beginning) → begin_call c h ≡ Ok (Some b)
        → AreBegun (entry client (start b h).1) (shown b.kind tick show.turns (painted_job (job_of b h)))
    begun (call.BeginNext after) wait tick at asks begins b is =
        let own = next_is after h b is in
        of_context own.context tick b own.own
    begun (call.BeginContext d c) wait tick at asks begins b is =
        let own = composed_is d c h b is in
        of_context own.context tick b own.own
    begun (call.BeginPort port) wait tick at asks begins b is =
        let waits : next p ≡ Some (waiting (call.BeginPort (pos at.0))) =
        asks ∙ ap (λ x. Some (record { call = call.BeginPort x; wait = wait })) at.1
        ∙ ap (λ x. Some (record { call = call.BeginPort (pos at.0); wait = x })) at.2 in
        of_port at.0 tick at.3 waits b (subst (λ x. begin_call (call.BeginPort x) h ≡ Ok (Some b)) at.1 is)
    begun _ wait tick at asks begins b is = absurd cc

    at_question : (w : Wanted) → is_begin w.call ≡ true → (tick : ℕ) (s : Stage) (next_of : ℕ → Option Phase) → IsTick p w tick
        → Told w (λ reply. took_job (record p { tick = tick; stage = s }) reply.payload (next_of reply.value))
    unfolding step
    at_question w begins tick s next_of at asks =
        let q = record p { tick = tick; stage = s } in
        by_begin (λ x. AreBegun (entry client x.1) (frames_of show.turns (took_job q x.1.payload (next_of x.1.value)))) h w.call m begins
        (λ register code a. none_begun (entry client (bare a)) (go_on (unheld q) (next_of a.value))
        (on_painted (unheld q) refl (next_of a.value)))
        (begun w.call w.wait tick at asks begins)

    pub turn_told : (w : Wanted) → next p ≡ Some w → Told w (took p)
    turn_told w asks =
        turn_case p Told w
        (record {
          canvas = λ c still. at_other c (λ reply. took_canvas p reply.payload) (canvas_painted p painted);
          value = λ c still. at_other c (λ reply. line_done p reply.value) (λ reply. done_painted p painted reply.value);
          frame = λ s paint.
              at_other (call.Acquire s) (λ reply. took_frame p paint (given_canvas reply.payload))
              (λ reply. frame_painted p painted paint (given_canvas reply.payload));
          asks = at_question;
          ended = λ job held l.
              at_other (call.End job) (λ reply. go_on (record p { job = None; unpainted = false }) l)
              (λ reply. on_painted (record p { job = None; unpainted = false }) refl l);
        }) asks

-- what a turn adds to a show: frames that its entry tells of
pub record Adds (show after : Show) (t : Turn) : Type 0 where
  pub painted : AllHold IsPainted after.programs
  pub frames : List Frame
  pub behind : after.frames ≡ show.frames ++ frames
  pub begun : All (λ f. Begins f show t) frames

pub turn_adds : (show : Show) (client : ℕ) (m : Bool) (done : Show × Turn) → AllHold IsPainted show.programs
    → turn show client m ≡ Some done → Adds show done.0 done.1
turn_adds show client m done are taken =
    let t = turn_of show client m done taken in
    let reply : Reply = (step show.state client t.wanted.call m).1 in
    let own : t.program.unpainted ≡ false = each_at (Holds IsPainted) show.programs client t.program are t.own in
    subst (λ x. Adds show x.0 x.1) t.is
    (record {
      painted = issued_hold IsPainted show.programs client (worked (took t.program reply)) (worked_painted (took t.program reply)) are;
      frames = frames_of show.turns (took t.program reply);
      behind = refl;
      begun = turn_told show client m t.program t.stands own t.wanted t.asks t.asks;
    })

module _ (script : PlainScript) (order : List Turn) where
  -- what a turn keeps
  record AreOfMoments (show : Show) : Type 0 where
    painted : AllHold IsPainted show.programs
    frames : All (IsOfMoment script order) show.frames

  turn_keeps : (show after : Show) → Step script order show after → AreOfMoments show → AreOfMoments after
  turn_keeps show after step are =
      let t : Turn = step.entry in
      let adds = turn_adds show t.client (is_marked t) (after, t) are.painted
      (taken_turn t (turn show t.client (is_marked t)) after step.takes) in
      let own : (f : Frame) → Begins f show t → IsOfMoment script order f = λ f begins. at_step (Begins f) step begins in
      record {
        painted = adds.painted;
        frames = subst (All (IsOfMoment script order)) (sym adds.behind)
            (All-append (IsOfMoment script order) show.frames adds.frames are.frames
            (λ k d within. own (get_or adds.frames k d) (adds.begun k d within)));
      }

  pub of_moments : All (IsOfMoment script order) (frames_after (replay script order))
  of_moments =
      elim (replay script order) as (λ o. replay script order ≡ o → All (IsOfMoment script order) (frames_after o)) [
        | None ↦ λ none. All-nil (IsOfMoment script order)
        | Some last ↦
            λ is. (order_keeps script order (λ ts. AreOfMoments) turn_keeps
            (record { painted = opening_hold IsPainted refl script 0 8; frames = All-nil (IsOfMoment script order) }) last is).frames
      ] refl
