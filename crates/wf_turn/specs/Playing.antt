-- A show while it is played: how it is kept, and what a turn leaves of it.
use Rattle.std.specs.Prelude.{◌≡◌, ℕ, ◌+◌, ◌<◌, ◌≤◌, Bool, ◌&&◌, List, [], ◌∷◌, ◌++◌, length, slice_get, slice_set, Option, Some, None}
use Rattle.std.specs.Prelude.{IfSome}
use Rattle.std.specs.Prelude.{All, IsSomeAnd, IsTrue, map, not, ◌==◌, if◌then◌else◌}
use Rattle.wf_calls.specs.declared.call.Call.{Call}
use Rattle.wf_calls.specs.declared.call.Job.{Job}
use Rattle.wf_calls.specs.declared.order.Turn.{Turn}
use Rattle.wf_calls.specs.declared.reply.Reply.{Reply}
use Rattle.wf_calls.specs.Codes.{entry}
use Rattle.wf_film.specs.Film.{Frame}
use Rattle.wf_machine.specs.Object.{IsAnswer, IsPaintable}
use Rattle.wf_model.specs.Frames.{is_of_frame, is_running}
use Rattle.wf_model.specs.State.{Running, State}
use Rattle.wf_model.specs.Step.{step}
use Rattle.wf_script.specs.Script.{PlainScript}
use Rattle.wf_turn.specs.declared.show.Show.TheInside.{Inside}
use Rattle.wf_turn.specs.declared.stage.Stage.{Stage}
use Rattle.wf_turn.specs.declared.stage.Stage.TheVariants as stage
use Rattle.wf_turn.specs.declared.stage.Wanted.{Wanted}
use Rattle.wf_turn.specs.Program.{Program, next, place_of, took, worked}
use Rattle.wf_turn.specs.Quota.{all_left}
use Rattle.wf_turn.specs.Ready.{AreOf}
use Rattle.wf_turn.specs.Turns.{Show, frames_of, is_setting_up, shown, turn}
use Rattle.wf_turn.specs.Play.{first_client}

-- a show, as it is seen: its frames are in the film already
abbrev pub show_of : Inside → Show
show_of s = record { state = s.machine; programs = s.cast; frames = []; turns = s.turns }

abbrev pub with_frames : List Frame → Show → Show
with_frames frames show = record show { frames = frames }

-- the script that a show plays: that of its clock
abbrev pub script_of : Show → PlainScript
script_of show = of_programs show.programs
  where
    of_programs : List Program → PlainScript
    of_programs [] = record { ports = record { modes = record { items = [] }; pipes = 0 }; lines = [] }
    of_programs (clock ∷ others) = clock.script

-- the programs are those of the eight clients of a script, each between two turns, with no Job left to paint
pub record IsCast (show : Show) : Type 0 where
  pub script : PlainScript
  pub programs : AreOf script 0 show.programs
  pub eight : length show.programs ≡ 8

-- programs of one script, the clock's before the others
abbrev pub AreOfOne : List Program → Type 0
AreOfOne [] = ⊥
AreOfOne (clock ∷ others) = All (λ p. p.script ≡ clock.script) others × (clock.client ≡ 0)

-- a client may have a turn: the clock always, and the others once the setup is through
abbrev pub may_turn : List Program → ℕ → Bool
may_turn programs client = not (not (client == 0) && is_setting_up programs)

-- the line at a place is that of the program of a client
abbrev pub StandsOwn : List Program → ℕ × ℕ → Type 0
StandsOwn programs c = IfSome (slice_get programs c.0) (λ p. IsSomeAnd (slice_get p.script.lines c.1) (λ l. l.client ≡ p.client))

-- the frame of the Job that a program holds, begun by the turn of a place
abbrev pub job_frames : ℕ → Program → List Frame
job_frames begin p = of_job p.job
  where
    of_job : Option Job → List Frame
    of_job None = []
    of_job (Some job) = shown job.kind p.tick begin job

-- the frame that is shown, where one was painted
abbrev pub frames_if : ℕ → Bool → Program → List Frame
frames_if begin painted p = if painted then job_frames begin p else []

-- the frames that a turn of a client, of a place, shows
abbrev pub shown_by : ℕ → Bool → List Program → ℕ → List Frame
shown_by begin painted programs client = of_program (slice_get programs client)
  where
    of_program : Option Program → List Frame
    of_program None = []
    of_program (Some p) = frames_if begin painted p

-- the client that a program is of holds a Job that can be painted
abbrev pub HoldsPaintable : List Program → ℕ → Type 0
HoldsPaintable programs client = IfSome (slice_get programs client) (λ p. IsSomeAnd p.job IsPaintable)

-- the next call of a program, which it can make now: none where it is through, and where the call waits and a frame runs
abbrev pub wanted_now : State → Program → Option Wanted
wanted_now h p = of_wanted (next p)
  where
    of_wanted : Option Wanted → Option Wanted
    of_wanted None = None
    of_wanted (Some w) = if w.wait && is_running h then None else Some w

-- the machine answers a call of a client, to which memory is refused or not, and the client's program takes the answer: what
-- that leaves of both, and the entry
pub record Answers (memory_refused : Bool) (client : ℕ) (h left : State) (c : Call) (p now : Program) (t : Turn) : Type 0 where
  pub reply : Reply
  pub left_is : left ≡ (step h client c memory_refused).0
  pub may : IsAnswer (step h client c memory_refused).1 reply
  pub now_is : now ≡ took p reply
  pub entry_is : t ≡ entry client reply

-- so it answers the next call of the program, which does not wait; the Job that comes is not painted yet
pub record TakesNext (memory_refused : Bool) (client : ℕ) (h left : State) (p now : Program) (t : Turn) : Type 0 where
  pub wanted : Wanted
  pub asks : wanted_now h p ≡ Some wanted
  pub answers : Answers memory_refused client h left wanted.call p now t

-- one turn of a program, to which memory is refused or not: what it leaves of the machine and, with its Job painted, of the
-- program, its entry, and whether there was a Job to paint
pub record Takes (memory_refused : Bool) (client : ℕ) (h left : State) (p now : Program) (t : Turn) (painted : Bool) : Type 0 where
  pub wanted : Wanted
  pub asks : wanted_now h p ≡ Some wanted
  pub state : left ≡ (step h client wanted.call memory_refused).0
  pub program : now ≡ worked (took p (step h client wanted.call memory_refused).1)
  pub entry_is : t ≡ entry client (step h client wanted.call memory_refused).1
  pub frames : (begin : ℕ) → frames_of begin (took p (step h client wanted.call memory_refused).1) ≡ frames_if begin painted now
  pub paintable : IsTrue painted → IsSomeAnd now.job IsPaintable

-- the program of a client has no turn now
abbrev pub IsStuckAt : ℕ → State → List Program → Type 0
IsStuckAt client h programs = IfSome (slice_get programs client) (λ p. wanted_now h p ≡ None)

-- one turn of the program of a client
abbrev pub TakesAt : Bool → ℕ → State → State → List Program → List Program → Turn → Bool → Type 0
TakesAt memory_refused client h left programs now t painted =
    IfSome (slice_get programs client) (λ p. (q : Program)
    × ((now ≡ slice_set programs client q) × Takes memory_refused client h left p q t painted))

-- a turn of a client, to which memory is refused or not, leads from a show to another: its frames stand behind whatever was shown
-- before it, and fewer turns are left
pub record Turned (show : Show) (client : ℕ) (memory_refused : Bool) (now : Show) (t : Turn) (painted : Bool) : Type 0 where
  pub taken : (front : List Frame) → turn (with_frames front show) client memory_refused
      ≡ Some (with_frames (front ++ shown_by show.turns painted now.programs client) now, t)
  pub turns : now.turns ≡ show.turns + 1
  pub fewer : all_left now.programs + 1 ≤ all_left show.programs
  pub paintable : IsTrue painted → HoldsPaintable now.programs client
  pub within : client < 8
  pub cast : IsCast now

-- a client has no turn, whatever was shown, and whether memory is refused or not
abbrev pub HasNoTurn : Show → ℕ → Type 0
HasNoTurn show client = (front : List Frame) (memory_refused : Bool) → turn (with_frames front show) client memory_refused ≡ None

-- the Job that is held is that of the running frame, to be ended
abbrev pub EndsAt : Option Job → Running → Stage → Type 0
EndsAt job f (stage.Ending phase) = IsSomeAnd job (λ j. IsTrue (is_of_frame j f))
EndsAt job f _ = ⊥

abbrev pub Ends : Running → Program → Type 0
Ends f p = EndsAt p.job f p.stage

-- a frame that runs is ended next in serial play, by the client of the first line that is not through
abbrev pub EndsNext : Show → Type 0
EndsNext show =
    IfSome show.state.frame (λ f. IfSome (first_client (map place_of show.programs)) (λ c. IfSome (slice_get show.programs c.0) (Ends f)))
