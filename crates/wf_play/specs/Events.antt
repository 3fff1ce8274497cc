-- What the mode `events` says of its input, and what it puts.
use Rattle.std.specs.Prelude.{◌≡◌, ℕ, ◌⊎◌, List, [], Option, IfSome}
use Rattle.wf_io.specs.Bytes.{Puts, PutsPart}
use Rattle.wf_io.specs.Causes.{Rose}
use Rattle.wf_calls.specs.declared.order.Turn.{Turn}
use Rattle.wf_script.specs.Grammar.{Stands}
use Rattle.wf_script.specs.Script.{PlainScript}
use Rattle.wf_check.specs.declared.verdict.Verdict.TheVariants as verdict
use Rattle.wf_check.specs.Verdicts.{IsSame, Says}
use Rattle.wf_events.specs.Log.{log}
use Rattle.wf_play.specs.Check.{AreWithin, SaysOfCheck}
use Rattle.wf_play.specs.Parts.{film_part, script_part}
use Rattle.wf_play.specs.declared.report.Status.{Status}
use Rattle.wf_play.specs.declared.report.Status.TheVariants as status

-- these bytes are the log, by the depth of the queue, of a script and of the own journal of its film, which is found the same
pub record IsLogIn (depth : ℕ) (script : PlainScript) (film bytes : List ℕ) : Type 0 where
  pub same : IsSame script film
  pub is : bytes ≡ log script same.film.order depth

-- so they are of the script that a text stands for
pub record IsLogOf (depth : ℕ) (text film bytes : List ℕ) : Type 0 where
  pub script : PlainScript
  pub stands : Stands text script
  pub own : IsLogIn depth script film bytes

-- there is no log: the status of the verdict on a film that is not found the same, or want of memory
abbrev pub HasNoLog : PlainScript → List ℕ → Status → Type 0
HasNoLog script film (status.Differs at) = Says script film (verdict.Differs at)
HasNoLog script film (status.BadOrder entry) = Says script film (verdict.BadOrder entry)
HasNoLog script film (status.BadFilm at rule) = Says script film (verdict.BadFilm at rule)
HasNoLog script film status.NoMemory = Unit {0}
HasNoLog script film _ = ⊥

module _ {O : Type 0} (took : O → List ℕ → Type 0) (old new : O) where
  -- with Done all bytes of a log were put, and with WriteFault the first so many; other statuses do not come of it
  abbrev pub PutsLog : List ℕ → Status → Type 0
  PutsLog bytes status.Done = Puts took old new bytes
  PutsLog bytes (status.WriteFault written) = PutsPart took old new 0 bytes written
  PutsLog bytes _ = ⊥

  -- a log was put, or its front
  abbrev pub IsPut : ℕ → List ℕ → Status → Type 0
  IsPut depth input s =
      (bytes : List ℕ) × (IsLogOf depth (script_part input) (film_part input) bytes × PutsLog bytes s)

  -- what each status says of an input of these bytes: those of a check, but where it found no fault
  abbrev pub SaysOfLog : ℕ → List ℕ → Status → Type 0
  SaysOfLog depth input status.Done = AreWithin input × IsPut depth input status.Done
  SaysOfLog depth input (status.WriteFault written) = AreWithin input × IsPut depth input (status.WriteFault written)
  SaysOfLog depth input s = SaysOfCheck input s

  -- no order is told, and each status says this of the input, where that tells its bytes
  pub record IsLogged (depth : ℕ) (order : List Turn) (input : Option (List ℕ)) (s : Status) : Type 0 where
    pub none : order ≡ []
    pub says : IfSome input (λ bytes. SaysOfLog depth bytes s)

-- where both parts are within their limits, the script part stands for a script of which the film part is found the same, and no fault is
-- counted, all is put, unless memory runs out
abbrev pub LogsAll : List ℕ → (input_before input_now film_before film_now : ℕ) → Status → Type 0
LogsAll bytes input_before input_now film_before film_now s =
    (script : PlainScript) → Stands (script_part bytes) script → AreWithin bytes → IsSame script (film_part bytes)
    → ¬ Rose input_before input_now → ¬ Rose film_before film_now → (s ≡ status.Done) ⊎ (s ≡ status.NoMemory)
