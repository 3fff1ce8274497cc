-- What was put of some bytes: all of them, or a front of them where the sink failed.
use Rattle.std.specs.Prelude.{◌≡◌, ℕ, List, ◌++◌, Result, Ok, Err}
use Rattle.wf_io.specs.Bytes.{Puts}

pub record PutsFront {K : Type 0} (took : K → List ℕ → Type 0) (before now : K) (bytes : List ℕ) : Type 0 where
  pub front : List ℕ
  pub rest : List ℕ
  pub parts : bytes ≡ front ++ rest
  pub put : Puts took before now front

abbrev pub Writes : {K E : Type 0} → (K → List ℕ → Type 0) → K → K → List ℕ → Result (Unit {0}) E → Type 0
Writes took before now bytes (Ok _) = Puts took before now bytes
Writes took before now bytes (Err _) = PutsFront took before now bytes
