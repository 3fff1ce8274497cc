-- How the programs of a script were played on threads, and what is in the film when they are.
use Rattle.std.specs.Prelude.{◌≡◌, ◌⊎◌, ℕ, ◌+◌, ◌<◌, ◌^◌, true, false, List, [], length, slice_get, slice_index_or, Some, None, Result, Err}
use Rattle.std.specs.Prelude.{suc}
use Rattle.std.specs.List.{AllByRecursion}
use Rattle.atomic_table.specs.Seated.{TableId}
use Rattle.wf_calls.specs.declared.order.Turn.{Turn}
use Rattle.wf_desk.specs.History.{IsLegal, IsPrefix, events_of}
use Rattle.wf_film.specs.declared.form.FilmForm.{FilmForm}
use Rattle.wf_film.specs.Film.{Writing, head_bytes, magic}
use Rattle.wf_film.specs.Stands.{IsFrameIn}
use Rattle.wf_io.specs.Bytes.{Puts, PutsPart}
use Rattle.wf_machine.specs.Object.{MayAnswer, after}
use Rattle.wf_model.specs.State.{opening}
use Rattle.wf_script.specs.Script.{PlainScript}
use Rattle.wf_turn.specs.declared.player.PlayStop.{PlayStop}
use Rattle.wf_turn.specs.declared.player.PlayStop.TheVariants as stop
use Rattle.wf_turn.specs.Play.{replay}
use Rattle.wf_turn.specs.Program.{Program, in_setup, place_of}
use Rattle.wf_turn.specs.Turns.{Show, is_setting_up}
use Rattle.wf_show.specs.declared.player.Player.{Player}
use Rattle.wf_show.specs.Clocks.{Cuts, IsClock, shown_to, start}
use Rattle.wf_machine.specs.Histories.{Happening}
use Rattle.wf_show.specs.Players.{AllPlayers}
use Rattle.wf_show.specs.Together.{IsSettingUp}

module _ (desk : TableId) (clock : Player) (old new : List Player) where
  -- The clock played its setup, and maybe more. Behind the setup the others learned its names, and were played to their ends.
  pub record AllPlay : Type 0 where
    pub middle : Player
    pub is_clock : IsClock desk middle
    pub script : middle.program.script ≡ clock.program.script
    pub setting : IsSettingUp (start middle) middle.pass.seen
    pub over : in_setup middle.program ≡ false
    pub goes_on : IsPrefix middle.pass.seen clock.pass.seen
    pub players : AllPlayers middle old new

  -- the setup is not through, and the others are as they were
  pub record IsAlone : Type 0 where
    pub setting : IsSettingUp (start clock) clock.pass.seen
    pub inside : in_setup clock.program ≡ true
    pub rest : new ≡ old

  abbrev pub AreEnded : Type 0
  AreEnded = AllPlay ⊎ IsAlone

module _ {K : Type 0} (took : K → List ℕ → Type 0) (old new : K) (form : FilmForm) where
  -- the magic and the clock's frames were put, each of which stands in the film
  pub record IsFilmed (writer : Writing) (clock : Player) : Type 0 where
    pub put : Puts took old new (head_bytes form (shown_to clock))
    pub writer_is : writer.written ≡ length (head_bytes form (shown_to clock))
    pub few : writer.written < 2 ^ 62
    pub each : AllByRecursion (IsFrameIn form) (shown_to clock)

  -- the magic was put, and then the clock's frames up to one that was not put whole
  pub record IsCutLate (written : ℕ) (first clock : Player) : Type 0 where
    pub begun : K
    pub magic_put : Puts took old begun (magic form)
    pub cuts : Cuts took begun new form (length (magic form)) written first clock

  -- the magic was not put whole, and the clock did nothing; or a frame was not
  abbrev pub IsCut : ℕ → Player → Player → Type 0
  IsCut written first clock = (PutsPart took old new 0 (magic form) written × (clock ≡ first)) ⊎ IsCutLate written first clock

-- One history of a script's machine is behind these clients, and knows no others.
pub record IsHistory (script : PlainScript) (clock : Player) (others : List Player) (history : List Happening) : Type 0 where
  pub legal : IsLegal after MayAnswer (opening script.ports) history
  pub begins : IsPrefix clock.pass.seen history
  pub mine : clock.pass.mine ≡ events_of 0 history
  pub all_begin : (i : ℕ) (d : Player) → i < length others → IsPrefix (slice_index_or others i d).pass.seen history
  pub all_mine : (i : ℕ) (d : Player) → i < length others → (slice_index_or others i d).pass.mine ≡ events_of (1 + i) history
  pub no_other : (client : ℕ) → 7 < client → events_of client history ≡ []

-- where a film was cut behind the setup, each program but the clock's is through all the same
abbrev pub OthersThrough : PlainScript → Result (List Turn) PlayStop → Type 0
OthersThrough script (Err (stop.WriteFault written order)) =
    (show : Show) → replay script order ≡ Some show → is_setting_up show.programs ≡ false
    → (client : ℕ) (p : Program) → slice_get show.programs (suc client) ≡ Some p → place_of p ≡ None
OthersThrough script _ = Unit {0}
