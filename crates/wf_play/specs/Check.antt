-- What the mode `check` says of its input.
use Rattle.std.specs.Prelude.{◌≡◌, ℕ, ◌^◌, ◌<◌, ◌≤◌, ◌⊎◌, List, [], length, Option, IfSome}
use Rattle.wf_io.specs.Bytes.{PutsNothing}
use Rattle.wf_io.specs.Causes.{Rose}
use Rattle.wf_calls.specs.declared.order.Turn.{Turn}
use Rattle.wf_script.specs.Grammar.{Stands}
use Rattle.wf_script.specs.Script.{PlainScript}
use Rattle.wf_check.specs.declared.verdict.Verdict.{Verdict}
use Rattle.wf_check.specs.declared.verdict.Verdict.TheVariants as verdict
use Rattle.wf_check.specs.Verdicts.{Says}
use Rattle.wf_play.specs.Parts.{film_part, script_part}
use Rattle.wf_play.specs.Refusals.{IsRefused, script_limit}
use Rattle.wf_play.specs.declared.report.Status.{Status}
use Rattle.wf_play.specs.declared.report.Status.TheVariants as status

-- the longest film that is checked, in bytes
abbrev pub film_limit : ℕ
film_limit = 2 ^ 26

-- each part is within its limit
pub record AreWithin (bytes : List ℕ) : Type 0 where
  pub script : length (script_part bytes) ≤ script_limit
  pub film : length (film_part bytes) ≤ film_limit

-- one is not
abbrev pub IsTooLong : List ℕ → Type 0
IsTooLong bytes = (script_limit < length (script_part bytes)) ⊎ (film_limit < length (film_part bytes))

-- the status of a verdict
abbrev pub status_of : Verdict → Status
status_of verdict.Same = status.Done
status_of (verdict.BadFilm at rule) = status.BadFilm at rule
status_of (verdict.BadOrder entry) = status.BadOrder entry
status_of (verdict.Differs at) = status.Differs at

-- the verdict on a film, by the script that a text stands for
pub record IsJudged (text film : List ℕ) (v : Verdict) : Type 0 where
  pub script : PlainScript
  pub stands : Stands text script
  pub says : Says script film v

-- what each status says of the text of a script and of the bytes of a film: others than these do not come
abbrev pub SaysOfParts : (text film : List ℕ) → Status → Type 0
SaysOfParts text film status.Done = IsJudged text film verdict.Same
SaysOfParts text film (status.Refused line rule) = IsRefused text line rule
SaysOfParts text film (status.Differs at) = IsJudged text film (verdict.Differs at)
SaysOfParts text film (status.BadOrder entry) = IsJudged text film (verdict.BadOrder entry)
SaysOfParts text film (status.BadFilm at rule) = IsJudged text film (verdict.BadFilm at rule)
SaysOfParts text film status.NoMemory = Unit {0}
SaysOfParts text film _ = ⊥

-- what a check comes to once its input is read
abbrev pub IsOutcome : Status → Type 0
IsOutcome status.Usage = ⊥
IsOutcome status.ReadFault = ⊥
IsOutcome (status.WriteFault written) = ⊥
IsOutcome _ = Unit {0}

-- what each status says of an input of these bytes
abbrev pub SaysOfCheck : List ℕ → Status → Type 0
SaysOfCheck bytes status.Usage = Unit {0}
SaysOfCheck bytes status.ReadFault = Unit {0}
SaysOfCheck bytes status.TooLong = IsTooLong bytes
SaysOfCheck bytes status.NoMemory = Unit {0}
SaysOfCheck bytes s = AreWithin bytes × SaysOfParts (script_part bytes) (film_part bytes) s

-- nothing was put and no order is told, and each status says this of the input, where that tells its bytes
pub record IsChecked {O : Type 0} (took : O → List ℕ → Type 0) (old new : O) (order : List Turn) (input : Option (List ℕ)) (s : Status)
    : Type 0 where
  pub nothing : PutsNothing took old new
  pub none : order ≡ []
  pub says : IfSome input (λ bytes. SaysOfCheck bytes s)

-- where both parts are within their limits, the script part stands for a script, and no fault is counted, a verdict is told, unless
-- memory runs out
abbrev pub TellsVerdict : List ℕ → (before now : ℕ) → Status → Type 0
TellsVerdict bytes before now s =
    (script : PlainScript) → Stands (script_part bytes) script → AreWithin bytes → ¬ Rose before now
    → ((v : Verdict) × (s ≡ status_of v)) ⊎ (s ≡ status.NoMemory)
