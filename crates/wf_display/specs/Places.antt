-- Where a port or a pipeline is kept that a call names by its number.
use Rattle.std.specs.Prelude.{◌≡◌, ℕ, ◌+◌, ◌<◌, ℤ, List, length, IfOk, Result}
use Rattle.wf_words.specs.Whole.{count_of}
use Rattle.wf_calls.specs.declared.reply.Refusal.{Refusal}

-- a number that is counted from 1 is that of a place, which is counted from 0, in a list
pub record IsPlaceOf {A : Type 0} (number : ℤ) (xs : List A) (place : ℕ) : Type 0 where
  pub number_is : count_of number ≡ place + 1
  pub within : place < length xs

-- where a place was found, it is that of the number
abbrev pub FindsPlace : {A : Type 0} → ℤ → List A → Result ℕ Refusal → Type 0
FindsPlace number xs found = IfOk found (IsPlaceOf number xs)
