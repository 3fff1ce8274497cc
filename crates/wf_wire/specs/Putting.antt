-- What was put of some bytes, and how much of them.
use Rattle.std.specs.Prelude.{◌≡◌, ℕ, List, length, Result, Ok, Err}
use Rattle.wf_io.specs.Bytes.{Puts, PutsPart}
use Rattle.wf_io.specs.declared.writing.WriteStop.{WriteStop}

-- all of them, and how many they are; or what stands before the byte where the sink failed
abbrev pub Writes : {K : Type 0} → (K → List ℕ → Type 0) → K → K → List ℕ → Result ℕ WriteStop → Type 0
Writes took before now bytes (Ok n) = Puts took before now bytes × (n ≡ length bytes)
Writes took before now bytes (Err stop) = PutsPart took before now 0 bytes stop.written
