-- What was read of the input, where it tells its bytes.
use Rattle.std.specs.Prelude.{◌≡◌, ℕ, false, List, [], ◌++◌, take, Option, Some, None}
use Rattle.wf_serve.specs.Runs.{IsFrame, has_frame}
use Rattle.wf_serve.specs.declared.input.Next.{Next}
use Rattle.wf_serve.specs.declared.input.Next.TheVariants as next

abbrev pub IfFrame : Next → (ℕ → Type 0) → Type 0
IfFrame (next.Frame count) Holds = Holds count
IfFrame _ Holds = Unit {0}

-- a frame stands in the front of the buffer, without its head
pub record Stands (count : ℕ) (bytes rest buffer : List ℕ) : Type 0 where
  pub first : List ℕ
  pub frame : IsFrame (take count buffer) first
  pub parts : bytes ≡ first ++ rest

abbrev pub ReadsNextOf : List ℕ → List ℕ → List ℕ → Next → Type 0
ReadsNextOf bytes rest buffer next.End = (bytes ≡ []) × (rest ≡ [])
ReadsNextOf bytes rest buffer (next.Frame count) = Stands count bytes rest buffer
ReadsNextOf bytes rest buffer next.Broken = has_frame bytes ≡ false

abbrev pub ReadsNext : Option (List ℕ) → Option (List ℕ) → List ℕ → Next → Type 0
ReadsNext None now buffer n = Unit {0}
ReadsNext (Some bytes) None buffer n = ⊥
ReadsNext (Some bytes) (Some rest) buffer n = ReadsNextOf bytes rest buffer n
