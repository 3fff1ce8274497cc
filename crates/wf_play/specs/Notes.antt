-- The line that goes into the notes.
use Rattle.std.specs.Prelude.{◌≡◌, ℕ, ◌<◌, ◌⊎◌, List, [], ◌++◌, length, take, codes, decimal, String}
use Rattle.wf_io.specs.Bytes.{Puts}
use Rattle.wf_io.specs.Causes.{Rose}
use Rattle.std.specs.Global.{Global}
use Rattle.wf_command.specs.Words.{AskFor}
use Rattle.wf_command.specs.declared.asked.Asked.{Asked}
use Rattle.wf_command.specs.declared.asked.Mode.{Mode}
use Rattle.wf_command.specs.declared.asked.Mode.TheVariants as mode
use Rattle.wf_play.specs.declared.report.Status.{Status}
use Rattle.wf_play.specs.declared.report.Status.TheVariants as status

-- the line of a status: nothing where the film is whole
abbrev pub note_of : Status → List ℕ
note_of status.Done = []
note_of status.Usage =
    codes "usage: wfplay <film|check|print|big|events|session> [--threads] [--rows N] [--size N] [--film N] [--depth N] [--repaint]\n"
note_of status.ReadFault = codes "read fault\n"
note_of status.TooLong = codes "input too long\n"
note_of (status.Refused line rule) = codes "line " ++ decimal line ++ codes ": rule " ++ decimal rule ++ codes "\n"
note_of (status.WriteFault written) = codes "write fault after " ++ decimal written ++ codes " bytes\n"
note_of (status.Differs at) = codes "differs at " ++ decimal at ++ codes "\n"
note_of (status.BadOrder entry) = codes "bad order at entry " ++ decimal entry ++ codes "\n"
note_of (status.BadFilm at rule) = codes "bad film at " ++ decimal at ++ codes ": rule " ++ decimal rule ++ codes "\n"
note_of (status.BadMessage at rule) = codes "bad message at " ++ decimal at ++ codes ": rule " ++ decimal rule ++ codes "\n"
note_of (status.Quota at) = codes "too many messages at " ++ decimal at ++ codes "\n"
note_of status.NoMemory = codes "no memory\n"

-- the line of a mode's status: `same` where a check found no fault
abbrev pub note_in : Mode → Status → List ℕ
note_in mode.Check status.Done = codes "same\n"
note_in _ s = note_of s

-- the words ask for a check, which found no fault
pub record IsSame (words : List (String Global)) (s : Status) : Type 0 where
  pub asked : Asked
  pub asks : AskFor asked words
  pub mode_is : asked.mode ≡ mode.Check
  pub done : s ≡ status.Done

-- these bytes were put, or a front of them where the count of faults rose
abbrev pub PutsOrFront : {N : Type 0} → (N → List ℕ → Type 0) → (old new : N) → (before now : ℕ) → List ℕ → Type 0
PutsOrFront took old new before now bytes =
    Puts took old new bytes ⊎ (Rose before now × ((n : ℕ) × ((n < length bytes) × Puts took old new (take n bytes))))
