-- Worked values of the words that all definitions share.
use Rattle.std.proofs.Common.{◌≡◌, ℕ, ◌+◌, Bool, true, false, pos, negsuc, List, [], ◌∷◌, Some, None, refl}
use Rattle.std.specs.Prelude.{Result, Ok, Err}
use Rattle.wf_words.specs.Keyed.{at_key, change, is_in, nth, once}
use Rattle.wf_words.specs.Refusals.{◌>>=◌, found_or, left_by, refuse_if}
use Rattle.wf_words.specs.Whole.{count_of}

abbrev own : ℕ → ℕ
own n = n

abbrev two : List ℕ
two = 5 ∷ 7 ∷ []

-- a number is looked up, and what is not there has none
found : at_key own 7 (5 ∷ 7 ∷ 9 ∷ []) ≡ Some 7
found = refl

not_found : at_key own 6 (5 ∷ 7 ∷ 9 ∷ []) ≡ None
not_found = refl

-- the element of a number is changed, and all others stay
changed : change own 7 (λ n. n + 1) (5 ∷ 7 ∷ 9 ∷ []) ≡ 5 ∷ 8 ∷ 9 ∷ []
changed = refl

-- places count from 1
first : nth 1 two ≡ Some 5
first = refl

before_the_first : nth 0 two ≡ None
before_the_first = refl

behind_the_last : nth 3 two ≡ None
behind_the_last = refl

inside : is_in 7 two ≡ true
inside = refl

outside : is_in 6 two ≡ false
outside = refl

-- each number stands once, where it stood first
once_each : once (5 ∷ 7 ∷ 5 ∷ 9 ∷ 7 ∷ []) ≡ 5 ∷ 7 ∷ 9 ∷ []
once_each = refl

-- of steps that refuse, the first one decides
abbrev step : ℕ → Result ℕ ℕ → Result ℕ ℕ
step n r = r >>= (λ m. Ok (m + n))

-- a refusal, by its number
abbrev refusing : ℕ → Bool → Result (Unit {0}) ℕ
refusing n condition = refuse_if n condition

goes_on : step 2 (Ok 3) ≡ Ok 5
goes_on = refl

first_refusal : (refusing 1 true >>= (λ _. refusing 2 true)) ≡ Err 1
first_refusal = refl

second_refusal : (refusing 1 false >>= (λ _. refusing 2 true)) ≡ Err 2
second_refusal = refl

there : found_or {A = ℕ} {E = ℕ} 1 (Some 4) ≡ Ok 4
there = refl

absent : found_or {A = ℕ} {E = ℕ} 1 None ≡ Err 1
absent = refl

left : left_by {A = ℕ} {E = ℕ} (Ok tt) 4 ≡ Ok 4
left = refl

nothing_left : left_by {A = ℕ} {E = ℕ} (Err 1) 4 ≡ Err 1
nothing_left = refl

-- a negative number counts as 0
counted : count_of (pos 3) ≡ 3
counted = refl

negative : count_of (negsuc 3) ≡ 0
negative = refl
