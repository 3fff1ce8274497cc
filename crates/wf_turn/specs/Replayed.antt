-- An order that is played again, entry by entry, each by whichever client it tells.
use Rattle.std.specs.Prelude.{◌≡◌, ℕ, ◌+◌, ◌≤◌, ◌⊎◌, false, List, [], length, take, None, Result, Ok, Err, IsSome}
use Rattle.wf_calls.specs.declared.order.Turn.{Turn}
use Rattle.wf_film.specs.declared.form.FilmForm.{FilmForm}
use Rattle.wf_film.specs.declared.TheConstants.{FRAME_BYTES}
use Rattle.wf_film.specs.Film.{Frame}
use Rattle.wf_io.specs.Bytes.{Puts}
use Rattle.wf_io.specs.Causes.{Rose}
use Rattle.wf_script.specs.Script.{PlainScript}
use Rattle.wf_turn.specs.declared.replaying.Entered.{Entered}
use Rattle.wf_turn.specs.declared.replaying.Entered.TheVariants as entered
use Rattle.wf_turn.specs.declared.replaying.ReplayStop.{ReplayStop}
use Rattle.wf_turn.specs.declared.replaying.ReplayStop.TheVariants as stop
use Rattle.wf_turn.specs.Turns.{Show, turn}
use Rattle.wf_turn.specs.Play.{IsComplete, IsLegal, film, is_marked, over_after, replay, replay_from, replay_turn}
use Rattle.wf_turn.specs.Played.{Follows, Plays, PlaysTurn, Replays}
use Rattle.wf_turn.specs.Playing.{IsCast, with_frames}

-- whatever was shown before it, the entry is no turn
abbrev pub IsNoTurn : Show → Turn → Type 0
IsNoTurn show t = (front : List Frame) → replay_turn t (turn (with_frames front show) t.client (is_marked t)) ≡ None

-- entries are turns from a show without frames on, up to one that is none, counted from 0
pub record StopsIn (start : Show) (ts : List Turn) (entry : ℕ) : Type 0 where
  pub legal : IsSome (replay_from (with_frames [] start) (take entry ts))
  pub stops : replay_from (with_frames [] start) (take (entry + 1) ts) ≡ None

module _ {K : Type 0} (took : K → List ℕ → Type 0) (old new : K) (form : FilmForm) (was written : ℕ) where
  -- an entry is a turn, and its frames are put
  pub record PlaysEntry (show now : Show) (t : Turn) : Type 0 where
    pub plays : PlaysTurn took old new form was written Follows show now t
    pub most : written ≤ was + FRAME_BYTES
    pub turns : now.turns ≡ show.turns + 1
    pub cast : IsCast now

  -- what became of an entry
  abbrev pub Enters : Show → Show → Turn → Entered → Type 0
  Enters show now t entered.Taken = PlaysEntry show now t
  Enters show now t entered.NoTurn = IsNoTurn show t
  Enters show now t entered.WriteFault = Unit {0}
  Enters show now t entered.NoMemory = Unit {0}

  -- what became of all entries
  abbrev pub PlaysAll : Show → Show → List Turn → Result (Unit {0}) ReplayStop → Type 0
  PlaysAll start now ts (Ok _) = Plays took old new form was written Replays start now ts
  PlaysAll start now ts (Err (stop.BadEntry entry)) = StopsIn start ts entry
  PlaysAll start now ts (Err stop.WriteFault) = Unit {0}
  PlaysAll start now ts (Err stop.NoMemory) = Unit {0}

-- a write fault comes only where the count of faults rose, and the count never falls
abbrev pub IsEntryCaused : ℕ → ℕ → Entered → Type 0
IsEntryCaused before now entered.WriteFault = (before ≤ now) × Rose before now
IsEntryCaused before now _ = before ≤ now

-- the first entry of an order that is no turn, counted from 0; or the number of entries, where all are turns and a program is not
-- through
pub record StopsAt (script : PlainScript) (order : List Turn) (entry : ℕ) : Type 0 where
  pub legal : IsLegal script (take entry order)
  pub stops : (replay script (take (entry + 1) order) ≡ None) ⊎ ((entry ≡ length order) × (over_after (replay script order) ≡ false))

module _ {K : Type 0} (took : K → List ℕ → Type 0) (old new : K) (form : FilmForm) (script : PlainScript) (order : List Turn) where
  -- what was put, by what playing an order again answers: the film of the order, which is complete; or where the order stops
  abbrev pub PlaysAgain : Result (Unit {0}) ReplayStop → Type 0
  PlaysAgain (Ok _) = Puts took old new (film form script order) × IsComplete script order
  PlaysAgain (Err (stop.BadEntry entry)) = StopsAt script order entry
  PlaysAgain (Err stop.WriteFault) = Unit {0}
  PlaysAgain (Err stop.NoMemory) = Unit {0}

-- so it is of a whole order
abbrev pub IsReplayCaused : {T : Type 0} → ℕ → ℕ → Result T ReplayStop → Type 0
IsReplayCaused before now (Ok _) = before ≤ now
IsReplayCaused before now (Err (stop.BadEntry entry)) = before ≤ now
IsReplayCaused before now (Err stop.WriteFault) = (before ≤ now) × Rose before now
IsReplayCaused before now (Err stop.NoMemory) = before ≤ now
