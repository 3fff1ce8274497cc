-- Bytes that are no script.
use Rattle.std.specs.Prelude.{◌≡◌, ℕ, ◌^◌, List, Err}
use Rattle.wf_script.specs.declared.fault.ScriptFault.{ScriptFault}
use Rattle.wf_script.specs.declared.fault.ScriptFault.TheVariants as fault
use Rattle.wf_script.specs.Grammar.{read_script}
use Rattle.wf_play.specs.declared.report.Status.{Status}
use Rattle.wf_play.specs.declared.report.Status.TheVariants as status

-- the longest script, in bytes
abbrev pub script_limit : ℕ
script_limit = 2 ^ 20

-- the status of bytes that are no script, by their first fault
abbrev pub refusal_of : ScriptFault → Status
refusal_of fault.Header = status.Refused 1 0
refusal_of (fault.Line line rule) = status.Refused line rule
refusal_of fault.TooManyLines = status.Refused 16385 9
refusal_of (fault.NoEnd line) = status.Refused line 8
refusal_of fault.NoMemory = status.NoMemory

-- the first line of these bytes that breaks a rule, with the least rule that it breaks
abbrev pub IsRefused : List ℕ → ℕ → ℕ → Type 0
IsRefused bytes line rule = (f : ScriptFault) × ((read_script bytes ≡ Err f) × (refusal_of f ≡ status.Refused line rule))
