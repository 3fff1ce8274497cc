-- Turns: one step of the machine for the next call of a client's program.
use Rattle.std.specs.Prelude.{ℕ, ◌+◌, Bool, false, not, ◌&&◌, ◌==◌, List, [], ◌∷◌, ◌++◌, map, Option, Some, None, is_none, slice_get}
use Rattle.std.specs.Prelude.{slice_set}
use Rattle.std.specs.Prelude.{if◌then◌else◌}
use Rattle.std.specs.List.{range_with_len, list_all}
use Rattle.wf_calls.specs.declared.call.Job.{Job}
use Rattle.wf_calls.specs.declared.call.JobKind.{JobKind}
use Rattle.wf_calls.specs.declared.call.JobKind.TheVariants as kind
use Rattle.wf_calls.specs.declared.reply.Reply.{Reply}
use Rattle.wf_calls.specs.declared.order.Turn.{Turn}
use Rattle.wf_calls.specs.Codes.{entry}
use Rattle.wf_film.specs.Film.{Frame, frame_of}
use Rattle.wf_model.specs.State.{State, opening}
use Rattle.wf_model.specs.Frames.{is_running}
use Rattle.wf_model.specs.Step.{step}
use Rattle.wf_script.specs.Script.{PlainScript}
use Rattle.wf_turn.specs.declared.stage.Wanted.{Wanted}
use Rattle.wf_turn.specs.Program.{Program, in_setup, next, place_of, program, taught, tick_of, took}
use Rattle.wf_model.specs.Picture.{painted_job}
use Rattle.wf_turn.specs.Program.{worked}

-- the state, the eight programs by client, the frames so far, and how many turns there were
pub record Show : Type 0 where
  pub state : State
  pub programs : List Program
  pub frames : List Frame
  pub turns : ℕ

abbrev pub opening_show : PlainScript → Show
opening_show script =
    record { state = opening script.ports; programs = map (program script) (range_with_len 0 8); frames = []; turns = 0 }

-- the clock, which is client 0's program, has a line of the setup left
abbrev pub is_setting_up : List Program → Bool
is_setting_up [] = false
is_setting_up (clock ∷ others) = in_setup clock

-- the place in the file of the clock's line, where that is a tick
abbrev pub tick_line : List Program → Option ℕ
tick_line [] = None
tick_line (clock ∷ others) = tick_of clock

-- the programs of the other clients learn the values of the names that the setup bound
abbrev pub all_taught : List Program → List Program
all_taught [] = []
all_taught (clock ∷ others) = clock ∷ map (taught clock) others

-- the programs after a turn: where it was the setup's last one, its names are handed on
abbrev pub inherited : (before now : List Program) → List Program
inherited before now = if is_setting_up before && not (is_setting_up now) then all_taught now else now

-- the program whose turn it may be: that of another client than 0 only behind the setup
abbrev pub program_at : Show → ℕ → Option Program
program_at show client =
    if not (client == 0) && is_setting_up show.programs then None else slice_get show.programs client

-- the frame that a Job shows in a tick, begun by the turn of a place; that of a context shows none
abbrev pub shown : JobKind → ℕ → ℕ → Job → List Frame
shown (kind.Context handle target) tick begin job = []
shown (kind.Port port) tick begin job = frame_of port tick begin job.image ∷ []

-- the frame of a Job that is painted next, begun by the turn of a place
abbrev pub frames_of : ℕ → Program → List Frame
frames_of begin p = if p.unpainted then of_job p.job else []
  where
    of_job : Option Job → List Frame
    of_job None = []
    of_job (Some job) = shown job.kind p.tick begin (painted_job job)

-- the show after an answer, with the entry
abbrev pub answered : Show → ℕ → Program → State × Reply → Show × Turn
answered show client p done = (
  record {
    state = done.0;
    programs = inherited show.programs (slice_set show.programs client (worked (took p done.1)));
    frames = show.frames ++ frames_of show.turns (took p done.1);
    turns = show.turns + 1;
  },
  entry client done.1,
)

-- a turn of a client, or none where its program is through or waits
unfoldable pub turn : Show → ℕ → Bool → Option (Show × Turn)
turn show client memory_refused = of_program (program_at show client)
  where
    of_wanted : Program → Option Wanted → Option (Show × Turn)
    of_wanted p None = None
    of_wanted p (Some w) =
        if w.wait && is_running show.state then None
        else Some (answered show client p (step show.state client w.call memory_refused))

    of_program : Option Program → Option (Show × Turn)
    of_program None = None
    of_program (Some p) = of_wanted p (next p)

-- every program is through
abbrev pub is_over : Show → Bool
is_over show = list_all (λ p. is_none (place_of p)) show.programs
