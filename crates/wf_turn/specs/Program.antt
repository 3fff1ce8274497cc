-- The program of a client: its place in its lines, the values of the names that it sees, and what it holds.
use Rattle.std.specs.Prelude.{ℕ, ◌+◌, Bool, true, false, not, ◌&&◌, ◌||◌, ◌==◌, nat_lt, pos, List, [], ◌∷◌, ◌++◌, length, filter, drop}
use Rattle.std.specs.Prelude.{take, Option, Some, None, is_some, unwrap_or, option_map, if◌then◌else◌}
use Rattle.std.specs.List.{enumerate_from}
use Rattle.wf_image.specs.declared.canvas.Canvas.{Canvas}
use Rattle.wf_image.specs.declared.paint.Paint.{Paint}
use Rattle.wf_image.specs.Paints.{painted_canvas}
use Rattle.wf_calls.specs.declared.call.Call.{Call}
use Rattle.wf_calls.specs.declared.call.Call.TheVariants as call
use Rattle.wf_calls.specs.declared.call.Job.{Job}
use Rattle.wf_calls.specs.declared.reply.Payload.{Payload}
use Rattle.wf_calls.specs.declared.reply.Payload.TheVariants as payload
use Rattle.wf_calls.specs.declared.reply.Reply.{Reply}
use Rattle.wf_calls.specs.Replies.{given_canvas}
use Rattle.wf_model.specs.Picture.{painted_job}
use Rattle.wf_script.specs.declared.line.Line.{Line}
use Rattle.wf_script.specs.declared.line.Verb.{Verb}
use Rattle.wf_script.specs.declared.line.Verb.TheVariants as verb
use Rattle.wf_script.specs.declared.name.Name.{Name}
use Rattle.wf_script.specs.Script.{PlainScript}
use Rattle.wf_turn.specs.declared.stage.Phase.{Phase}
use Rattle.wf_turn.specs.declared.stage.Phase.TheVariants as phase
use Rattle.wf_turn.specs.declared.stage.Stage.{Stage}
use Rattle.wf_turn.specs.declared.stage.Stage.TheVariants as stage
use Rattle.wf_turn.specs.declared.stage.Wanted.{Wanted}
use Rattle.wf_turn.specs.Calls.{plain_call}
use Rattle.wf_turn.specs.Names.{bound_name, bound_names, value_of}
use Rattle.wf_model.specs.declared.TheConstants.{MOST_CONTEXTS}

-- its script and its client; its lines that are not through, each with its place in the file; the values of the names
-- that it bound, and of those that the setup bound; the canvas that it holds; the Job that it holds, and whether that
-- is not painted yet; the stage in the first line; and the number of the last tick
pub record Program : Type 0 where
  pub script : PlainScript
  pub client : ℕ
  pub lines : List (ℕ × Line)
  pub own : List (Name × ℕ)
  pub learned : List (Name × ℕ)
  pub canvas : Option Canvas
  pub job : Option Job
  pub unpainted : Bool
  pub stage : Stage
  pub tick : ℕ

abbrev pub first_of : List (ℕ × Line) → Option Line
first_of [] = None
first_of (l ∷ ls) = Some l.1

-- the line that is not through yet, if there is one
abbrev pub first_line : Program → Option Line
first_line p = first_of p.lines

-- the value of a name, or 0 for none
abbrev pub handle : Program → Option Name → ℕ
handle p None = 0
handle p (Some name) = unwrap_or (value_of name (p.own ++ p.learned)) 0

-- the next call

abbrev pub plain : Call → Wanted
plain call = record { call = call; wait = false }

-- a call that waits until no frame runs
abbrev pub waiting : Call → Wanted
waiting call = record { call = call; wait = true }

-- a line makes an event, by whether a canvas is held
abbrev pub is_event : Bool → Verb → Bool
is_event held (verb.Acquire stream) = not held
is_event held (verb.Frame stream paint) = not held
is_event held verb.Post = held
is_event held verb.Discard = held
is_event held (verb.Paint paint) = false
is_event held _ = true

-- the call that a line begins with, or none where it makes no event
abbrev pub first_call : Program → Verb → Option Wanted
first_call p (verb.Acquire stream) = if is_some p.canvas then None else Some (plain (call.Acquire (handle p stream)))
first_call p verb.Post = option_map (λ canvas. plain (call.Post canvas)) p.canvas
first_call p verb.Discard = option_map (λ canvas. plain (call.Discard canvas)) p.canvas
first_call p (verb.Paint paint) = None
first_call p (verb.Frame stream paint) = if is_some p.canvas then None else Some (plain (call.Acquire (handle p stream)))
first_call p verb.Tick = Some (waiting (call.BeginNext 0))
first_call p (verb.Compose d c) = Some (waiting (call.BeginContext (handle p d) (handle p c)))
first_call p (verb.TryCompose d c) = Some (plain (call.BeginContext (handle p d) (handle p c)))
first_call p v = option_map plain (plain_call (handle p) v)

-- a line was begun that is not through
abbrev pub is_begun : Stage → Bool
is_begun stage.Fresh = false
is_begun _ = true

-- what a tick asks for
abbrev pub asked_for : Phase → Wanted
asked_for (phase.Contexts asked last) = waiting (call.BeginNext last)
asked_for (phase.Ports port) = waiting (call.BeginPort (pos port))

-- the next call at a stage
abbrev pub wanted_at : Program → Verb → Stage → Option Wanted
wanted_at p v stage.Fresh = first_call p v
wanted_at p v stage.Posting = option_map (λ canvas. plain (call.Post canvas)) p.canvas
wanted_at p v (stage.Ticking l) = Some (asked_for l)
wanted_at p v (stage.Ending l) = option_map (λ job. plain (call.End job)) p.job

-- the next call of a program, or none where it is through
abbrev pub next : Program → Option Wanted
next p = of_line (first_line p)
  where
    of_line : Option Line → Option Wanted
    of_line None = None
    of_line (Some l) = wanted_at p l.verb p.stage

-- the canvas that stays when the first call of a line is handed out
abbrev pub kept_first : Verb → Option Canvas → Option Canvas
kept_first verb.Post canvas = None
kept_first verb.Discard canvas = None
kept_first _ canvas = canvas

-- the canvas and the Job that stay when a call is handed out
abbrev pub kept_canvas : Option Line → Stage → Option Canvas → Option Canvas
kept_canvas (Some l) stage.Fresh canvas = kept_first l.verb canvas
kept_canvas (Some l) stage.Posting canvas = None
kept_canvas _ _ canvas = canvas

abbrev pub kept_job : Option Line → Stage → Option Job → Option Job
kept_job (Some l) (stage.Ending m) job = None
kept_job _ _ job = job

-- the program after it handed its next call out: what the call carries is in it no more
abbrev pub issued : Program → Program
issued p = record p { canvas = kept_canvas (first_line p) p.stage p.canvas; job = kept_job (first_line p) p.stage p.job }

-- lines that are through

-- what a line that makes no event does to the canvas
abbrev pub silent : Verb → Option Canvas → Option Canvas
silent (verb.Paint paint) canvas = option_map (painted_canvas paint) canvas
silent _ canvas = canvas

-- lines that make no event are through as soon as those before them are: the canvas after them, and the lines from the
-- next event on
abbrev pub skipped : Option Canvas → List (ℕ × Line) → Option Canvas × List (ℕ × Line)
skipped canvas [] = (canvas, [])
skipped canvas (l ∷ ls) =
    if is_event (is_some canvas) l.1.verb then (canvas, l ∷ ls)
    else skipped (silent l.1.verb canvas) ls

-- a program before the first event of some lines
abbrev pub before : Program → List (ℕ × Line) → Program
before p ls = with_lines (skipped p.canvas ls)
  where
    with_lines : Option Canvas × List (ℕ × Line) → Program
    with_lines s = record p { canvas = s.0; lines = s.1; stage = stage.Fresh }

-- a name is bound to a value
abbrev pub bound : Option Name → ℕ → List (Name × ℕ) → List (Name × ℕ)
bound None n names = names
bound (Some name) n names = names ++ (name, n) ∷ []

-- the first line is through; the name that it binds, if there is one, has this value
abbrev pub line_done : Program → ℕ → Program
line_done p value = of_lines p.lines
  where
    of_lines : List (ℕ × Line) → Program
    of_lines [] = p
    of_lines (l ∷ ls) = before (record p { own = bound (bound_name l.1) value p.own }) ls

-- the answer

abbrev pub at_stage : Program → Stage → Program
at_stage p stage = record p { stage = stage }

abbrev pub port_count : Program → ℕ
port_count p = length p.script.ports.modes.items

-- the ports of a tick from one on
abbrev pub at_port : Program → ℕ → Program
at_port p port = if nat_lt (port_count p) port then line_done p 0 else at_stage p (stage.Ticking (phase.Ports port))

-- after the answer of a BeginNext without a Job, or the end of its frame: contexts are asked for until the answer
-- has no handle, or sixteen times
abbrev pub asked_next : Program → ℕ → ℕ → Program
asked_next p asked last =
    if (last == 0) || not (nat_lt asked MOST_CONTEXTS) then at_port p 1 else at_stage p (stage.Ticking (phase.Contexts asked last))

-- a tick goes on, or a line that is no tick is through
abbrev pub go_on : Program → Option Phase → Program
go_on p None = line_done p 0
go_on p (Some (phase.Contexts asked last)) = asked_next p asked last
go_on p (Some (phase.Ports port)) = at_port p port

-- no Job is held
abbrev pub unheld : Program → Program
unheld p = record p { job = None; unpainted = false }

-- a Job is to be painted and then ended; without one none is held, and the line goes on
abbrev pub took_job : Program → Payload → Option Phase → Program
took_job p (payload.Job job) l = record p { job = Some job; unpainted = true; stage = stage.Ending l }
took_job p _ l = go_on (unheld p) l

-- the line is through, with the canvas that came
abbrev pub took_canvas : Program → Payload → Program
took_canvas p given = line_done (record p { canvas = given_canvas given }) 0

-- what an acquire gives is painted, to be posted next
abbrev pub took_frame : Program → Paint → Option Canvas → Program
took_frame p paint None = line_done p 0
took_frame p paint (Some canvas) = record p { canvas = Some (painted_canvas paint canvas); stage = stage.Posting }

-- a tick begins
abbrev pub ticking : Program → Program
ticking p = record p { tick = p.tick + 1; stage = stage.Ticking (phase.Contexts 0 0) }

-- the answer to the first call of a line
abbrev pub took_first : Program → Line → Reply → Program
took_first p l reply = of_verb l.verb
  where
    of_verb : Verb → Program
    of_verb (verb.Acquire stream) = took_canvas p reply.payload
    of_verb verb.Post = took_canvas p reply.payload
    of_verb verb.Discard = took_canvas p reply.payload
    of_verb (verb.Frame stream paint) = took_frame p paint (given_canvas reply.payload)
    of_verb verb.Tick = took_job (ticking p) reply.payload (Some (phase.Contexts 1 reply.value))
    of_verb (verb.Compose d c) = took_job p reply.payload None
    of_verb (verb.TryCompose d c) = took_job p reply.payload None
    of_verb _ = line_done p reply.value

-- where a tick goes on after the answer to a question
abbrev pub answered : Phase → ℕ → Phase
answered (phase.Contexts asked last) value = phase.Contexts (asked + 1) value
answered (phase.Ports port) value = phase.Ports (port + 1)

-- the answer to a tick's question
abbrev pub took_phase : Program → Reply → Phase → Program
took_phase p reply l = took_job p reply.payload (Some (answered l reply.value))

abbrev pub took_at : Program → Line → Reply → Stage → Program
took_at p l reply stage.Fresh = took_first p l reply
took_at p l reply stage.Posting = took_canvas p reply.payload
took_at p l reply (stage.Ticking m) = took_phase p reply m
took_at p l reply (stage.Ending m) = go_on (unheld p) m

-- a program after the answer to its next call
abbrev pub took : Program → Reply → Program
took p reply = of_line (first_line p)
  where
    of_line : Option Line → Program
    of_line None = p
    of_line (Some l) = took_at p l reply p.stage

-- a Job is held that was not painted yet
abbrev pub is_work : Program → Bool
is_work p = p.unpainted && is_some p.job

-- a Job that was not painted yet is painted
abbrev pub worked : Program → Program
worked p = if p.unpainted then record p { job = option_map painted_job p.job; unpainted = false } else p

-- the setup: client 0's lines before the first line of another client

-- how many lines stand before the first line of a client other than 0
abbrev pub setup_lines : List Line → ℕ
setup_lines [] = 0
setup_lines (l ∷ ls) = if l.client == 0 then setup_lines ls + 1 else 0

-- the names that the setup binds
abbrev pub setup_names : List Line → List Name
setup_names lines = bound_names 0 (take (setup_lines lines) lines)

-- the place in the file of a program's first line that is not through
abbrev pub place_of : Program → Option ℕ
place_of p = of_lines p.lines
  where
    of_lines : List (ℕ × Line) → Option ℕ
    of_lines [] = None
    of_lines (l ∷ ls) = Some l.0

-- so it is of the first line, where that is a tick
abbrev pub tick_of : Program → Option ℕ
tick_of p = of_line (first_line p)
  where
    of_verb : Verb → Option ℕ
    of_verb verb.Tick = place_of p
    of_verb _ = None

    of_line : Option Line → Option ℕ
    of_line None = None
    of_line (Some l) = of_verb l.verb

-- how many lines of the canonical text stand before the event lines: the header, the ports, and the pipelines where there are some
abbrev pub lines_before : PlainScript → ℕ
lines_before script = 1 + length script.ports.modes.items + (if script.ports.pipes == 0 then 0 else 1)

-- the number, in the canonical text, of the line of the next event, or 0 where the program is through
abbrev pub line_of : Program → ℕ
line_of p = of_place (place_of p)
  where
    of_place : Option ℕ → ℕ
    of_place None = 0
    of_place (Some place) = lines_before p.script + place + 1

-- a line of the setup is not through
abbrev pub in_setup : Program → Bool
in_setup p = of_place (place_of p)
  where
    of_place : Option ℕ → Bool
    of_place None = false
    of_place (Some place) = nat_lt place (setup_lines p.script.lines)

-- a program that knows the values of the names that the setup bound, from the clock's program
abbrev pub taught : Program → Program → Program
taught clock p = record p { learned = take (length (setup_names p.script.lines)) clock.own }

-- the beginning

-- the lines of a client from a place in the file on, each with its place
abbrev pub lines_from : ℕ → ℕ → List Line → List (ℕ × Line)
lines_from client at lines = filter (λ l. l.1.client == client) (enumerate_from at (drop at lines))

-- the program of a client before its first call
abbrev pub program : PlainScript → ℕ → Program
program script client =
    before
    (record {
      script = script;
      client = client;
      lines = [];
      own = [];
      learned = [];
      canvas = None;
      job = None;
      unpainted = false;
      stage = stage.Fresh;
      tick = 0;
    })
    (lines_from client 0 script.lines)
