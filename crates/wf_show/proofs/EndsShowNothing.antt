-- A Job that is painted next is ended next, and its end shows nothing.
use Rattle.std.proofs.Common.{◌≡◌, ◌∙◌, ℕ, Bool, true, false, cond, List, [], Option, Some, None, refl, sym, ap}
use Rattle.std.specs.Option.{is_some, option_map}
use Rattle.std.proofs.lemmas.Bool.{and_parts}
use Rattle.wf_image.specs.declared.canvas.Canvas.{Canvas}
use Rattle.wf_image.specs.declared.paint.Paint.{Paint}
use Rattle.wf_calls.specs.declared.reply.Payload.{Payload}
use Rattle.wf_calls.specs.declared.reply.Payload.TheVariants as payload
use Rattle.wf_calls.specs.declared.reply.Reply.{Reply}
use Rattle.wf_script.specs.declared.line.Line.{Line}
use Rattle.wf_script.specs.declared.line.Verb.{Verb}
use Rattle.wf_script.specs.declared.line.Verb.TheVariants as verb
use Rattle.wf_script.specs.Script.{PlainScript}
use Rattle.wf_turn.specs.declared.stage.Phase.{Phase}
use Rattle.wf_turn.specs.declared.stage.Phase.TheVariants as phase
use Rattle.wf_turn.specs.declared.stage.Stage.{Stage}
use Rattle.wf_turn.specs.declared.stage.Stage.TheVariants as stage
use Rattle.wf_turn.specs.Program.{Program, answered, first_line, go_on, in_setup, is_work, line_done, place_of}
use Rattle.wf_model.specs.Picture.{painted_job}
use Rattle.wf_calls.specs.Replies.{given_canvas}
use Rattle.wf_turn.specs.Program.{ticking, took, took_at, took_canvas, took_first, took_frame, took_job, unheld}
use Rattle.wf_turn.specs.Turns.{frames_of}
use Rattle.wf_turn.proofs.AnswersKeep.{same_script}
use Rattle.wf_turn.proofs.JobCanBePainted.{canvas_painted, done_painted, frame_painted, on_painted}
use Rattle.wf_show.specs.Played.{gone_on}

abbrev Rows : Type 0
Rows = List (ℕ × Line)

abbrev pub is_ending : Stage → Bool
is_ending stage.Fresh = false
is_ending stage.Posting = false
is_ending (stage.Ticking l) = false
is_ending (stage.Ending l) = true

-- a Job that is still to be painted comes in a line that is not through, and is to be ended next
pub record IsToEnd (ls : Rows) (q : Program) : Type 0 where
  pub lines : q.lines ≡ ls
  pub stage : is_ending q.stage ≡ true

abbrev Works : Rows → Program → Type 0
Works ls q = q.unpainted ≡ true → IsToEnd ls q

never : (ls : Rows) (q : Program) → q.unpainted ≡ false → Works ls q
never ls q painted unpainted = absurd (let no : true ≡ false = sym unpainted ∙ painted in cc)

job_works : (p : Program) (given : Payload) (l : Option Phase) → p.unpainted ≡ false → Works p.lines (took_job p given l)
job_works p (payload.Job job) l painted = λ unpainted. record { lines = refl; stage = refl }
job_works p payload.Nothing l painted = never p.lines (go_on (unheld p) l) (on_painted (unheld p) refl l)
job_works p (payload.Canvas canvas) l painted = never p.lines (go_on (unheld p) l) (on_painted (unheld p) refl l)

frame_works : (p : Program) (paint : Paint) (o : Option Canvas) → p.unpainted ≡ false → Works p.lines (took_frame p paint o)
frame_works p paint o painted = never p.lines (took_frame p paint o) (frame_painted p painted paint o)

canvas_works : (p : Program) (reply : Reply) → p.unpainted ≡ false → Works p.lines (took_canvas p reply.payload)
canvas_works p reply painted = never p.lines (took_canvas p reply.payload) (canvas_painted p painted reply)

first_works : (p : Program) (l : Line) (v : Verb) (reply : Reply) → p.unpainted ≡ false
    → Works p.lines (took_first p (record l { verb = v }) reply)
first_works p l (verb.Acquire s) reply painted = canvas_works p reply painted
first_works p l verb.Post reply painted = canvas_works p reply painted
first_works p l verb.Discard reply painted = canvas_works p reply painted
first_works p l (verb.Frame s paint) reply painted = frame_works p paint (given_canvas reply.payload) painted
first_works p l verb.Tick reply painted = job_works (ticking p) reply.payload (Some (phase.Contexts 1 reply.value)) painted
first_works p l (verb.Compose d c) reply painted = job_works p reply.payload None painted
first_works p l (verb.TryCompose d c) reply painted = job_works p reply.payload None painted
first_works p l _ reply painted = never p.lines (line_done p reply.value) (done_painted p painted reply.value)

stage_works : (p : Program) (l : Line) (reply : Reply) (s : Stage) → p.unpainted ≡ false → Works p.lines (took_at p l reply s)
stage_works p l reply stage.Fresh painted = first_works p l l.verb reply painted
stage_works p l reply stage.Posting painted = canvas_works p reply painted
stage_works p l reply (stage.Ticking m) painted = job_works p reply.payload (Some (answered m reply.value)) painted
stage_works p l reply (stage.Ending m) painted =
    let q : Program = record p { job = None; unpainted = false } in never p.lines (go_on q m) (on_painted q refl m)

took_works : (p : Program) (reply : Reply) → p.unpainted ≡ false → Works p.lines (took p reply)
took_works p reply painted = of_line (first_line p) refl
  where
    of_line : (o : Option Line) → first_line p ≡ o → Works p.lines (took p reply)
    of_line None is = rw is (never p.lines p painted)
    of_line (Some l) is = rw is (stage_works p l reply p.stage painted)

-- where a Job was painted, it is to be ended
pub to_end : (p : Program) (reply : Reply) → p.unpainted ≡ false → is_work (took p reply) ≡ true → IsToEnd p.lines (gone_on p reply)
to_end p reply painted work =
    let q : Program = took p reply in
    let end = took_works p reply painted (and_parts q.unpainted (is_some q.job) work).0 in
    elim q.unpainted as (λ b. IsToEnd p.lines (cond b (record q { job = option_map painted_job q.job; unpainted = false }) q)) [
      | true ↦ record { lines = end.lines; stage = end.stage }
      | false ↦ end
    ]

-- there its line is not through, and the clock is at the line where it was
pub at_line : (p : Program) (reply : Reply) → p.unpainted ≡ false → is_work (took p reply) ≡ true
    → place_of (gone_on p reply) ≡ place_of p
at_line p reply painted work = ap (λ (ls : Rows). place_of (record p { lines = ls })) (to_end p reply painted work).lines

pub inside_still : (p : Program) (reply : Reply) → p.unpainted ≡ false → is_work (took p reply) ≡ true
    → in_setup (gone_on p reply) ≡ in_setup p
inside_still p reply painted work =
    ap (λ (ls : Rows). in_setup (record (gone_on p reply) { lines = ls })) (to_end p reply painted work).lines
    ∙ ap (λ (s : PlainScript). in_setup (record p { script = s })) (same_script p reply)

-- the end of a frame shows nothing
pub end_shows : (begin : ℕ) (p : Program) (reply : Reply) → p.unpainted ≡ false → is_ending p.stage ≡ true
    → frames_of begin (took p reply) ≡ []
end_shows begin p reply painted ending = of_line (first_line p) refl
  where
    quiet : (q : Program) → q.unpainted ≡ false → frames_of begin q ≡ []
    quiet q is = rw is refl

    of_stage : (l : Line) (s : Stage) → is_ending s ≡ true → frames_of begin (took_at p l reply s) ≡ []
    of_stage l stage.Fresh is = absurd cc
    of_stage l stage.Posting is = absurd cc
    of_stage l (stage.Ticking m) is = absurd cc
    of_stage l (stage.Ending m) is =
        let q : Program = record p { job = None; unpainted = false } in quiet (go_on q m) (on_painted q refl m)

    of_line : (o : Option Line) → first_line p ≡ o → frames_of begin (took p reply) ≡ []
    of_line None is = rw is (quiet p painted)
    of_line (Some l) is = rw is (of_stage l p.stage ending)
