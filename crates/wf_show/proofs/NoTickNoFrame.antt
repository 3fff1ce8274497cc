-- A program without a tick shows no frame: the frames that it composes are those of contexts.
use Rattle.wf_turn.proofs.Common.{◌≡◌, ◌∙◌, ℕ, ◌+◌, ◌==◌, Bool, true, false, not, cond, List, [], ◌∷◌, Option, Some, None, refl}
use Rattle.wf_turn.proofs.Common.{sym, ap}
use Rattle.wf_turn.proofs.Common.{subst, filter, enumerate_from, list_all, and_parts, Call, Job, Canvas, Paint, Payload}
use Rattle.wf_turn.proofs.Common.{Reply, Line}
use Rattle.wf_turn.proofs.Common.{Verb, PlainScript, State, by_begin, is_ok_code, step}
use Rattle.wf_turn.proofs.Common.{is_out_of_memory, bound_name, Program, before, bound, given_canvas, line_done, lines_from}
use Rattle.wf_turn.proofs.Common.{next}
use Rattle.wf_turn.proofs.Common.{painted_job, program, took, took_at, took_first, took_frame, took_job, wanted_at, worked, frames_of}
use Rattle.wf_turn.proofs.Common.{unheld}
use Rattle.wf_turn.proofs.Common.{SamePayload}
use Rattle.wf_turn.proofs.Common.{act, first_call, go_on, plain, waiting, handle, job_of, shown, took_canvas, eqb-true}
use Rattle.wf_turn.specs.declared.stage.Stage.{Stage}
use Rattle.wf_turn.specs.declared.stage.Wanted.{Wanted}
use Rattle.std.proofs.lemmas.Bool.{and_from}
use Rattle.wf_calls.specs.declared.call.Call.TheVariants as call
use Rattle.wf_calls.specs.declared.call.JobKind.{JobKind}
use Rattle.wf_calls.specs.declared.call.JobKind.TheVariants as kind
use Rattle.wf_calls.specs.declared.reply.Payload.TheVariants as payload
use Rattle.wf_machine.specs.Object.{MayAnswer}
use Rattle.wf_model.specs.Beginnings.{composed_is}
use Rattle.wf_script.specs.Script.{is_tick, may_tick}
use Rattle.wf_script.specs.declared.line.Verb.TheVariants as verb
use Rattle.wf_turn.specs.Going.{IsNextCall}
use Rattle.wf_turn.specs.declared.stage.Stage.TheVariants as stage
use Rattle.wf_turn.proofs.FrameOfATurn.{nothing_shown}
use Rattle.wf_turn.proofs.JobCanBePainted.{canvas_painted, done_painted, frame_painted, on_painted}
use Rattle.wf_show.proofs.LinesThatAreLeft.{Rows, gone_keep, skipped_keep}
use Rattle.wf_turn.proofs.AnswersKeep.{worked_if, worked_painted}

abbrev pub no_ticks : Rows → Bool
no_ticks ls = list_all (λ l. not (is_tick l.1.verb)) ls

-- a stage of a line that is no tick
abbrev pub is_calm : Stage → Bool
is_calm stage.Fresh = true
is_calm stage.Posting = true
is_calm (stage.Ticking l) = false
is_calm (stage.Ending None) = true
is_calm (stage.Ending (Some l)) = false

-- no line of the program is a tick, and no Job is left to paint
pub record IsStill (p : Program) : Type 0 where
  pub lines : no_ticks p.lines ≡ true
  pub painted : p.unpainted ≡ false
  pub calm : is_calm p.stage ≡ true

-- the stage behind an answer

calm_done : (p : Program) (v : ℕ) → is_calm p.stage ≡ true → is_calm (line_done p v).stage ≡ true
calm_done p v calm = of_lines p.lines refl
  where
    of_lines : (ls : Rows) → p.lines ≡ ls → is_calm (line_done p v).stage ≡ true
    of_lines [] is = rw is calm
    of_lines (l ∷ ls) is =
        let same : line_done p v ≡ before (record p { own = bound (bound_name l.1) v p.own }) ls =
        ap (λ ms. line_done (record p { lines = ms }) v) is in
        subst (λ x. is_calm x.stage ≡ true) (sym same) refl

calm_job : (p : Program) (given : Payload) → is_calm p.stage ≡ true → is_calm (took_job p given None).stage ≡ true
calm_job p (payload.Job job) calm = refl
calm_job p payload.Nothing calm = calm_done (unheld p) 0 calm
calm_job p (payload.Canvas canvas) calm = calm_done (unheld p) 0 calm

calm_frame : (p : Program) (paint : Paint) (canvas : Option Canvas) → is_calm p.stage ≡ true
    → is_calm (took_frame p paint canvas).stage ≡ true
calm_frame p paint None calm = calm_done p 0 calm
calm_frame p paint (Some canvas) calm = refl

calm_first : (p : Program) (l : Line) (v : Verb) (reply : Reply) → not (is_tick v) ≡ true → is_calm p.stage ≡ true
    → is_calm (took_first p (record l { verb = v }) reply).stage ≡ true
calm_first p l (verb.Acquire s) reply apart calm = calm_done (record p { canvas = given_canvas reply.payload }) 0 calm
calm_first p l verb.Post reply apart calm = calm_done (record p { canvas = given_canvas reply.payload }) 0 calm
calm_first p l verb.Discard reply apart calm = calm_done (record p { canvas = given_canvas reply.payload }) 0 calm
calm_first p l (verb.Frame s paint) reply apart calm = calm_frame p paint (given_canvas reply.payload) calm
calm_first p l verb.Tick reply apart calm = absurd cc
calm_first p l (verb.Compose d c) reply apart calm = calm_job p reply.payload calm
calm_first p l (verb.TryCompose d c) reply apart calm = calm_job p reply.payload calm
calm_first p l _ reply apart calm = calm_done p reply.value calm

calm_at : (p : Program) (l : Line) (reply : Reply) (s : Stage) → not (is_tick l.verb) ≡ true → is_calm s ≡ true → p.stage ≡ s
    → is_calm (took_at p l reply s).stage ≡ true
calm_at p l reply stage.Fresh apart calm at = calm_first p l l.verb reply apart (ap is_calm at)
calm_at p l reply stage.Posting apart calm at = calm_done (record p { canvas = given_canvas reply.payload }) 0 (ap is_calm at)
calm_at p l reply (stage.Ticking m) apart calm at = absurd cc
calm_at p l reply (stage.Ending None) apart calm at = calm_done (record p { job = None; unpainted = false }) 0 (ap is_calm at)
calm_at p l reply (stage.Ending (Some m)) apart calm at = absurd cc

calm_took : (p : Program) (reply : Reply) → IsStill p → is_calm (took p reply).stage ≡ true
calm_took p reply still = of_lines p.lines refl still.lines
  where
    of_lines : (ls : Rows) → p.lines ≡ ls → no_ticks ls ≡ true → is_calm (took p reply).stage ≡ true
    of_lines [] is none = rw is still.calm
    of_lines (l ∷ ls) is none =
        let apart = (and_parts (not (is_tick l.1.verb)) (no_ticks ls) none).0 in
        let same : took p reply ≡ took_at (record p { lines = l ∷ ls }) l.1 reply p.stage =
        ap (λ ms. took (record p { lines = ms }) reply) is in
        subst (λ x. is_calm x.stage ≡ true) (sym same)
        (calm_at (record p { lines = l ∷ ls }) l.1 reply p.stage apart still.calm refl)

-- the Job of a frame that a client composes is of a context

abbrev OfContext : JobKind → Type 0
OfContext k = (handle target : ℕ) × (k ≡ kind.Context handle target)

same_context : (a b : JobKind) → a ≡ b → OfContext b → OfContext a
same_context a b same own = (own.0, own.1, same ∙ own.2)

wanted_job : (is_new : Bool) (wanted : Payload) (job : Job) → SamePayload is_new wanted (payload.Job job)
    → (j : Job) × (wanted ≡ payload.Job j) × (job.kind ≡ j.kind)
wanted_job is_new (payload.Job j) job same = (j, refl, same.kind)
wanted_job is_new payload.Nothing job same = absurd cc
wanted_job is_new (payload.Canvas canvas) job same = absurd cc

context_job : (h : State) (client d c : ℕ) (reply : Reply) (job : Job) → MayAnswer h client (call.BeginContext d c) reply
    → reply.payload ≡ payload.Job job → OfContext job.kind
unfolding step
context_job h client d c reply job may has =
    let m = is_out_of_memory reply.code in
    let wanted : Reply = (act h (call.BeginContext d c) m).1 in
    let same : SamePayload (is_ok_code reply.code) wanted.payload (payload.Job job) =
    subst (λ x. SamePayload (is_ok_code reply.code) wanted.payload x) has may.payload in
    let j = wanted_job (is_ok_code reply.code) wanted.payload job same in
    same_context job.kind j.0.kind j.2
    (by_begin (λ x. (k : Job) → x.1.payload ≡ payload.Job k → OfContext k.kind) h (call.BeginContext d c) m refl
    (λ register code a k has. absurd cc)
    (λ b is k has. (
    let begun = composed_is d c h b is in
    let comes : payload.Job (job_of b h) ≡ payload.Job k = has in
    let same : job_of b h ≡ k = cc in
    (begun.context.handle, begun.context.target, sym (ap (λ x. x.kind) same) ∙ ap (λ x. x.kind) begun.own.is))) j.0 j.1)

shows_job : (begin : ℕ) (p : Program) (given : Payload) → p.unpainted ≡ false → ((job : Job) → given ≡ payload.Job job → OfContext job.kind)
    → frames_of begin (took_job p given None) ≡ []
shows_job begin p (payload.Job job) painted of =
    let own = of job refl in
    ap (λ k. shown k p.tick begin (painted_job job)) own.2
shows_job begin p payload.Nothing painted of = nothing_shown begin (line_done (unheld p) 0) (done_painted (unheld p) refl 0)
shows_job begin p (payload.Canvas canvas) painted of = nothing_shown begin (line_done (unheld p) 0) (done_painted (unheld p) refl 0)

module _ (begin : ℕ) (p : Program) (h : State) (client : ℕ) (w : Wanted) (reply : Reply) (painted : p.unpainted ≡ false)
    (may : MayAnswer h client w.call reply) where
  of_compose : (d c : ℕ) (x : Wanted) → x.call ≡ call.BeginContext d c → Some x ≡ Some w
      → frames_of begin (took_job p reply.payload None) ≡ []
  of_compose d c x begins asks =
      let is : x ≡ w = cc in
      let its : MayAnswer h client (call.BeginContext d c) reply =
      subst (λ k. MayAnswer h client k reply) (sym (ap (λ y. y.call) is) ∙ begins) may in
      shows_job begin p reply.payload painted (λ job has. context_job h client d c reply job its has)

  shows_first : (l : Line) (v : Verb) → not (is_tick v) ≡ true → first_call p v ≡ Some w
      → frames_of begin (took_first p (record l { verb = v }) reply) ≡ []
  shows_first l (verb.Acquire s) apart asks = nothing_shown begin (took_canvas p reply.payload) (canvas_painted p painted reply)
  shows_first l verb.Post apart asks = nothing_shown begin (took_canvas p reply.payload) (canvas_painted p painted reply)
  shows_first l verb.Discard apart asks = nothing_shown begin (took_canvas p reply.payload) (canvas_painted p painted reply)
  shows_first l (verb.Frame s paint) apart asks =
      nothing_shown begin (took_frame p paint (given_canvas reply.payload)) (frame_painted p painted paint (given_canvas reply.payload))
  shows_first l verb.Tick apart asks = absurd cc
  shows_first l (verb.Compose d c) apart asks =
      of_compose (handle p d) (handle p c) (waiting (call.BeginContext (handle p d) (handle p c))) refl asks
  shows_first l (verb.TryCompose d c) apart asks =
      of_compose (handle p d) (handle p c) (plain (call.BeginContext (handle p d) (handle p c))) refl asks
  shows_first l _ apart asks = nothing_shown begin (line_done p reply.value) (done_painted p painted reply.value)

  shows_at : (l : Line) (s : Stage) → not (is_tick l.verb) ≡ true → is_calm s ≡ true → wanted_at p l.verb s ≡ Some w
      → frames_of begin (took_at p l reply s) ≡ []
  shows_at l stage.Fresh apart calm asks = shows_first l l.verb apart asks
  shows_at l stage.Posting apart calm asks = nothing_shown begin (took_canvas p reply.payload) (canvas_painted p painted reply)
  shows_at l (stage.Ticking m) apart calm asks = absurd cc
  shows_at l (stage.Ending None) apart calm asks =
      nothing_shown begin (go_on (record p { job = None; unpainted = false }) None)
      (on_painted (record p { job = None; unpainted = false }) refl None)
  shows_at l (stage.Ending (Some m)) apart calm asks = absurd cc

shows_nothing : (begin : ℕ) (p : Program) (h : State) (client : ℕ) (w : Wanted) (reply : Reply) → IsStill p → next p ≡ Some w
    → MayAnswer h client w.call reply → frames_of begin (took p reply) ≡ []
shows_nothing begin p h client w reply still asks may = of_lines p.lines refl still.lines
  where
    of_lines : (ls : Rows) → p.lines ≡ ls → no_ticks ls ≡ true → frames_of begin (took p reply) ≡ []
    of_lines [] is none = absurd (let no : None ≡ Some w = rw is at asks in cc)
    of_lines (l ∷ ls) is none =
        let apart = (and_parts (not (is_tick l.1.verb)) (no_ticks ls) none).0 in
        let here : Program = record p { lines = l ∷ ls } in
        let same : p ≡ here = ap (λ ms. record p { lines = ms }) is in
        let wants : wanted_at here l.1.verb p.stage ≡ Some w = subst (λ x. next x ≡ Some w) same asks in
        subst (λ x. frames_of begin (took x reply) ≡ []) (sym same)
        (shows_at begin here h client w reply still.painted may l.1 p.stage apart still.calm wants)

-- such a program stays one, and shows nothing
pub record StaysStill (p : Program) (reply : Reply) : Type 0 where
  pub still : IsStill (worked (took p reply))
  pub nothing : (begin : ℕ) → frames_of begin (took p reply) ≡ []

pub stays_still : (p : Program) (h : State) (client : ℕ) (c : Call) (reply : Reply) → IsStill p → IsNextCall h p c
    → MayAnswer h client c reply → StaysStill p reply
stays_still p h client c reply still own may =
    let q : Program = took p reply in
    let kept = gone_keep (λ ls. no_ticks ls ≡ true) (λ l ls all. (and_parts (not (is_tick l.1.verb)) (no_ticks ls) all).1) p reply
    still.lines in
    let calm : is_calm q.stage ≡ true = calm_took p reply still in
    let its : MayAnswer h client own.wanted.call reply = subst (λ x. MayAnswer h client x reply) (sym own.call) may in
    record {
      still =
          record {
            lines = kept;
            painted = worked_painted q;
            calm = elim q.unpainted as (λ b. is_calm (worked_if b q).stage ≡ true) [ true ↦ calm | false ↦ calm ];
          };
      nothing = λ begin. shows_nothing begin p h client own.wanted reply still own.asks its;
    }

-- so is the program of each client but the clock's
abbrev only_own : ℕ → Rows → Rows
only_own client ls = filter (λ l. l.1.client == client) ls

own_ticks : (client at : ℕ) (ls : List Line) → (client == 0) ≡ false → list_all may_tick ls ≡ true
    → no_ticks (only_own client (enumerate_from at ls)) ≡ true
own_ticks client at [] other all = refl
own_ticks client at (l ∷ ls) other all =
    let parts = and_parts (may_tick l) (list_all may_tick ls) all in
    let rest = own_ticks client (at + 1) ls other parts.1 in
    elim (l.client == client) as (λ b. (l.client == client) ≡ b
    → no_ticks (cond b ((at, l) ∷ only_own client (enumerate_from (at + 1) ls)) (only_own client (enumerate_from (at + 1) ls))) ≡ true) [
      | true ↦ λ own. and_from (not (is_tick l.verb)) (no_ticks (only_own client (enumerate_from (at + 1) ls)))
          (no_tick own parts.0) rest
      | false ↦ λ apart. rest
    ] refl
  where
    no_tick : (l.client == client) ≡ true → may_tick l ≡ true → not (is_tick l.verb) ≡ true
    no_tick own may =
        let is : l.client ≡ client = eqb-true l.client client own in
        let not_clock : (l.client == 0) ≡ false = ap (λ c. c == 0) is ∙ other in
        rw not_clock at may

pub opening_still : (script : PlainScript) (client : ℕ) → (client == 0) ≡ false → list_all may_tick script.lines ≡ true
    → IsStill (program script client)
opening_still script client other all =
    record {
      lines =
          skipped_keep (λ ls. no_ticks ls ≡ true) (λ l ls all. (and_parts (not (is_tick l.1.verb)) (no_ticks ls) all).1) None
          (lines_from client 0 script.lines) (own_ticks client 0 script.lines other all);
      painted = refl;
      calm = refl;
    }
