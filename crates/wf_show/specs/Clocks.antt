-- The clock: what its calls make of it, and of the film.
use Rattle.std.specs.Prelude.{◌≡◌, ℕ, ◌+◌, ◌*◌, ◌<◌, ◌≤◌, ◌^◌, Bool, true, List, [], ◌∷◌, ◌++◌, length, flat_map, IsSomeAnd, IsTrue}
use Rattle.atomic_table.specs.Seated.{TableId}
use Rattle.wf_desk.specs.History.{IsPrefix, events_of}
use Rattle.wf_film.specs.declared.form.FilmForm.{FilmForm}
use Rattle.wf_film.specs.Film.{Frame, frame_bytes}
use Rattle.wf_film.specs.Frames.{PutsFrames}
use Rattle.wf_io.specs.Bytes.{PutsPart}
use Rattle.wf_machine.specs.Object.{IsPaintable}
use Rattle.wf_turn.specs.Playing.{frames_if}
use Rattle.wf_turn.specs.Program.{Program, in_setup, is_work, program, took}
use Rattle.wf_show.specs.declared.player.Player.{Player}
use Rattle.wf_show.specs.Played.{gone_on}
use Rattle.wf_machine.specs.Histories.{Happening}
use Rattle.wf_show.specs.Players.{first_pass}
use Rattle.wf_show.specs.Running.{RunsSoFar}
use Rattle.wf_show.specs.Shown.{frames_by}
use Rattle.wf_show.specs.Together.{IsSettingUp}
use Rattle.wf_film.specs.declared.TheConstants.{FRAME_BYTES}

-- its program before the first call
abbrev pub start : Player → Program
start c = program c.program.script 0

-- the frames of its events so far
abbrev pub shown_to : Player → List Frame
shown_to c = frames_by 0 0 (start c) c.pass.seen

-- it has played its program from the first call on, and can go on
pub record IsClock (desk : TableId) (c : Player) : Type 0 where
  pub quota : ℕ
  pub most : quota ≤ 655360
  pub client : c.program.client ≡ 0
  pub so_far : RunsSoFar (start c) c.program (first_pass desk c.program.script 0 quota) c.pass

-- One call: it is one event, behind what others may have made meanwhile, and the Job that came, if one did, is painted.
pub record Advanced (a b : Player) (painted : Bool) : Type 0 where
  pub script : b.program.script ≡ a.program.script
  pub left : b.pass.left + 1 ≡ a.pass.left
  pub before : List Happening
  pub event : Happening
  pub own : event.client ≡ 0
  pub goes_on : IsPrefix a.pass.seen before
  pub between : events_of 0 goes_on.0 ≡ []
  pub seen : b.pass.seen ≡ before ++ event ∷ []
  pub program : b.program ≡ gone_on a.program event.reply
  pub painted_is : painted ≡ is_work (took a.program event.reply)
  pub shows : shown_to b ≡ shown_to a ++ frames_if b.pass.place painted b.program
  pub paintable : IsTrue painted → IsSomeAnd b.program.job IsPaintable
  pub called : 0 < length b.pass.mine

-- where the clock is in the setup, what it does is of the setup
abbrev pub SetsUp : Player → Player → Type 0
SetsUp a b = in_setup a.program ≡ true → IsSettingUp (start a) a.pass.seen → IsSettingUp (start b) b.pass.seen

-- one call of the clock, which can go on
pub record Advances (desk : TableId) (a b : Player) (painted : Bool) : Type 0 where
  pub clock : IsClock desk b
  pub advanced : Advanced a b painted
  pub setting : SetsUp a b

module _ {K : Type 0} (took : K → List ℕ → Type 0) (old new : K) (form : FilmForm) (was written : ℕ) where
  -- calls one after another, whose frames were put
  pub record Shows (a b : Player) : Type 0 where
    pub script : b.program.script ≡ a.program.script
    pub goes_on : IsPrefix a.pass.seen b.pass.seen
    pub frames : List Frame
    pub adds : shown_to b ≡ shown_to a ++ frames
    pub put : PutsFrames took old new form was written frames

  -- calls whose frames were put, one whose frame was not put whole, and the end of that frame
  pub record Cuts (a b : Player) : Type 0 where
    pub last : Player
    pub middle : Player
    pub begun : Advanced last middle true
    pub ended : Bool
    pub ends : Advanced middle b ended
    pub script : last.program.script ≡ a.program.script
    pub goes_on : IsPrefix a.pass.seen last.pass.seen
    pub frames : List Frame
    pub frame : Frame
    pub adds : shown_to last ≡ shown_to a ++ frames
    pub shows : shown_to middle ≡ shown_to last ++ frame ∷ []
    pub quiet : shown_to b ≡ shown_to middle
    pub put : PutsPart took old new was (flat_map (frame_bytes form) (frames ++ frame ∷ [])) written
    pub least : was + length (flat_map (frame_bytes form) frames) ≤ written

module _ {K : Type 0} (took : K → List ℕ → Type 0) where
  -- so far
  pub record ShowsSoFar (desk : TableId) (old new : K) (form : FilmForm) (was written : ℕ) (a b : Player) (faults_before faults : ℕ)
      : Type 0 where
    pub all : Shows took old new form was written a b
    pub clock : IsClock desk b
    pub few : written + b.pass.left * FRAME_BYTES < 2 ^ 62
    pub later : faults_before ≤ faults
