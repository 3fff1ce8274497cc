-- What a report says: of the input's bytes, of what went into the film, and of the order.
use Rattle.std.specs.Prelude.{◌≡◌, ℕ, ◌<◌, ◌≤◌, ◌⊎◌, Bool, true, false, List, [], length, Option, Result, Ok, Err, IfSome}
use Rattle.wf_io.specs.Bytes.{Puts, PutsNothing, PutsPart}
use Rattle.wf_io.specs.Causes.{Rose}
use Rattle.wf_calls.specs.declared.order.Turn.{Turn}
use Rattle.wf_script.specs.Canonical.{canonical}
use Rattle.wf_script.specs.Grammar.{Stands}
use Rattle.wf_script.specs.Script.{PlainScript}
use Rattle.wf_film.specs.declared.form.FilmForm.{FilmForm}
use Rattle.wf_check.specs.Verdicts.{IsSame}
use Rattle.wf_show.specs.Ends.{OthersThrough}
use Rattle.wf_turn.specs.declared.player.PlayStop.{PlayStop}
use Rattle.wf_turn.specs.declared.player.PlayStop.TheVariants as stop
use Rattle.wf_turn.specs.Films.{IsCutFilm}
use Rattle.wf_turn.specs.Play.{IsComplete as IsWholeOrder, film, marks, serial_order}
use Rattle.wf_turn.specs.Serial.{BeginsSerial}
use Rattle.wf_command.specs.declared.asked.Mode.{Mode}
use Rattle.wf_command.specs.declared.asked.Mode.TheVariants as mode
use Rattle.wf_play.specs.Check.{SaysOfCheck, TellsVerdict}
use Rattle.wf_play.specs.Events.{LogsAll}
use Rattle.wf_play.specs.Sessions.{AnswersEach}
use Rattle.wf_play.specs.Refusals.{IsRefused, script_limit}
use Rattle.wf_play.specs.declared.report.Status.{Status}
use Rattle.wf_play.specs.declared.report.Status.TheVariants as status

-- the exit of a status
abbrev pub exit_of : Status → ℕ
exit_of status.Done = 0
exit_of status.Usage = 2
exit_of status.ReadFault = 3
exit_of status.TooLong = 4
exit_of (status.Refused line rule) = 5
exit_of (status.WriteFault written) = 6
exit_of (status.Differs at) = 7
exit_of (status.BadOrder entry) = 8
exit_of (status.BadFilm at rule) = 9
exit_of status.NoMemory = 10
exit_of (status.BadMessage at rule) = 11
exit_of (status.Quota at) = 12

-- the bytes that were put are the plain film, in a form, of the script that the input's bytes stand for, under the order,
-- which is legal and complete; without threads it is the serial order; and a check of that film says that it is the same
pub record IsPlainFilm {O : Type 0} (took : O → List ℕ → Type 0) (old new : O) (form : FilmForm) (threads : Bool) (bytes : List ℕ)
    (order : List Turn) : Type 0 where
  pub script : PlainScript
  pub stands : Stands bytes script
  pub put : Puts took old new (film form script order)
  pub complete : IsWholeOrder script order
  pub serial : threads ≡ false → order ≡ serial_order script (marks order)
  pub checked : IsSame script (film form script order)

-- a check of the film of what a play answers says that it is the same
abbrev pub IsFoundSame : FilmForm → PlainScript → Result (List Turn) PlayStop → Type 0
IsFoundSame form script (Ok order) = IsSame script (film form script order)
IsFoundSame form script (Err _) = Unit {0}

-- The first `written` bytes of a film of that script were put. Without threads the order begins the serial one; with threads each
-- program but the clock's is through, where the setup is.
pub record IsFront {O : Type 0} (took : O → List ℕ → Type 0) (old new : O) (form : FilmForm) (threads : Bool) (bytes : List ℕ)
    (order : List Turn) (written : ℕ) : Type 0 where
  pub script : PlainScript
  pub stands : Stands bytes script
  pub cut : IsCutFilm took old new form script order written
  pub serial : threads ≡ false → BeginsSerial script order
  pub others : threads ≡ true → OthersThrough script (Err (stop.WriteFault written order))

-- the bytes that were put are the canonical text of the script that the input's bytes stand for, and nothing was played
pub record IsPrinted {O : Type 0} (took : O → List ℕ → Type 0) (old new : O) (bytes : List ℕ) (order : List Turn) : Type 0 where
  pub script : PlainScript
  pub stands : Stands bytes script
  pub put : Puts took old new (canonical script)
  pub none : order ≡ []

-- the first `written` bytes of that text were put
pub record IsCutText {O : Type 0} (took : O → List ℕ → Type 0) (old new : O) (bytes : List ℕ) (order : List Turn) (written : ℕ) : Type 0
  where
    pub script : PlainScript
    pub stands : Stands bytes script
    pub cut : PutsPart took old new 0 (canonical script) written
    pub none : order ≡ []

module _ {O : Type 0} (took : O → List ℕ → Type 0) (old new : O) (order : List Turn) where
  -- what each status says of an input of these bytes, in a mode that reads it, with what that puts whole and of what it put a front
  abbrev pub SaysOfRead : (List ℕ → Type 0) → (List ℕ → ℕ → Type 0) → List ℕ → Status → Type 0
  SaysOfRead IsWhole IsCut bytes status.Done = (length bytes ≤ script_limit) × IsWhole bytes
  SaysOfRead IsWhole IsCut bytes status.Usage = Unit {0}
  SaysOfRead IsWhole IsCut bytes status.ReadFault = Unit {0}
  SaysOfRead IsWhole IsCut bytes status.TooLong = script_limit < length bytes
  SaysOfRead IsWhole IsCut bytes (status.Refused line rule) = (length bytes ≤ script_limit) × IsRefused bytes line rule
  SaysOfRead IsWhole IsCut bytes (status.WriteFault written) = (length bytes ≤ script_limit) × IsCut bytes written
  SaysOfRead IsWhole IsCut bytes status.NoMemory = Unit {0}
  SaysOfRead IsWhole IsCut bytes _ = ⊥

  -- what each status says of an input of these bytes; the mode `big` reads none, and `events` and `session` have clauses of their own
  abbrev pub SaysOfInput : Mode → FilmForm → Bool → List ℕ → Status → Type 0
  SaysOfInput mode.Film form threads bytes s =
      SaysOfRead (λ bytes. IsPlainFilm took old new form threads bytes order)
      (λ bytes. IsFront took old new form threads bytes order) bytes s
  SaysOfInput mode.Check form threads bytes s = SaysOfCheck bytes s
  SaysOfInput mode.Print form threads bytes s =
      SaysOfRead (λ bytes. IsPrinted took old new bytes order) (λ bytes. IsCutText took old new bytes order) bytes s
  SaysOfInput mode.Big form threads bytes s = Unit {0}
  SaysOfInput mode.Events form threads bytes s = Unit {0}
  SaysOfInput mode.Session form threads bytes s = Unit {0}

  -- what each status says of the film and of the order, whatever the input, in every mode but `session`
  abbrev pub SaysOfFilm : Status → Type 0
  SaysOfFilm status.Done = Unit {0}
  SaysOfFilm (status.WriteFault written) = (bytes : List ℕ) × (length bytes ≡ written) × Puts took old new bytes
  SaysOfFilm _ = PutsNothing took old new × (order ≡ [])

-- a fault is told only where its count rose
abbrev pub IsCaused : (input_before input_now film_before film_now : ℕ) → Status → Type 0
IsCaused input_before input_now film_before film_now status.ReadFault = Rose input_before input_now
IsCaused input_before input_now film_before film_now (status.WriteFault written) = Rose film_before film_now
IsCaused _ _ _ _ _ = Unit {0}

-- what reading a script from an input says, where the input tells its bytes
abbrev pub ReadsScript : List ℕ → Result PlainScript Status → Type 0
ReadsScript bytes (Ok script) = (length bytes ≤ script_limit) × Stands bytes script
ReadsScript bytes (Err status.TooLong) = script_limit < length bytes
ReadsScript bytes (Err (status.Refused line rule)) = (length bytes ≤ script_limit) × IsRefused bytes line rule
ReadsScript bytes (Err _) = Unit {0}

-- the statuses that reading a script comes to, and their cause
abbrev pub IsReadStop : (input_before input_now : ℕ) → Status → Type 0
IsReadStop before now status.ReadFault = Rose before now
IsReadStop before now status.TooLong = Unit {0}
IsReadStop before now (status.Refused line rule) = Unit {0}
IsReadStop before now status.NoMemory = Unit {0}
IsReadStop before now _ = ⊥

-- where the input is within the limit and stands for a script, and no fault is counted, all is put, unless memory runs out
abbrev pub IsComplete : List ℕ → (input_before input_now film_before film_now : ℕ) → Status → Type 0
IsComplete bytes input_before input_now film_before film_now s =
    (script : PlainScript) → Stands bytes script → length bytes ≤ script_limit → ¬ Rose input_before input_now → ¬ Rose film_before film_now
    → (s ≡ status.Done) ⊎ (s ≡ status.NoMemory)

-- in each mode: `big` needs no input
abbrev pub CompletesIn : Mode → Option (List ℕ) → (input_before input_now film_before film_now : ℕ) → Status → Type 0
CompletesIn mode.Big input a b film_before film_now s = ¬ Rose film_before film_now → (s ≡ status.Done) ⊎ (s ≡ status.NoMemory)
CompletesIn mode.Check input input_before input_now c d s = IfSome input (λ bytes. TellsVerdict bytes input_before input_now s)
CompletesIn mode.Events input a b film_before film_now s = IfSome input (λ bytes. LogsAll bytes a b film_before film_now s)
CompletesIn mode.Session input a b film_before film_now s = IfSome input (λ bytes. AnswersEach bytes a b film_before film_now s)
CompletesIn _ input a b film_before film_now s = IfSome input (λ bytes. IsComplete bytes a b film_before film_now s)
