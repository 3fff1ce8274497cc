-- The number of a message, from a piece of one byte that was filled or not.
use Rattle.std.proofs.Common.{◌≡◌, ◌∙◌, ℕ, zero, suc, ◌+◌, ◌-◌, ◌<◌, ◌≤◌, true, false, List, [], ◌∷◌, ◌++◌, length, take, get_or}
use Rattle.std.proofs.Common.{slice_get}
use Rattle.std.proofs.Common.{Option, Some, None, Ok, Err, ap, refl, arith}
use Rattle.std.proofs.lemmas.Bool.{le-ltb, lt-ltb}
use Rattle.std.specs.Prelude.{nat_lt}
use Rattle.std.specs.Io.KnownBytes.{Consumes, IsAtEnd}
use Rattle.wf_words.specs.Keyed.{nth}
use Rattle.wf_wire.specs.declared.stop.ServeStop.TheVariants as stop
use Rattle.wf_wire.specs.declared.TheConstants.{MESSAGES_END}
use Rattle.wf_wire.specs.Forms.{forms}
use Rattle.wf_wire.specs.Messages.{first}
use Rattle.wf_wire.specs.Reading.{cursor}
use Rattle.wf_wire.specs.Taking.{Finds, FindsEnd}

-- the source ended
pub first_none : (old new : Option (List ℕ)) (at n : ℕ) (into : List ℕ) → Consumes old new (take n into) → n ≡ 0 → IsAtEnd new
    → FindsEnd first old at new at
unfolding first
first_none None new at n into taken none end = tt
first_none (Some bytes) None at n into taken none end = absurd taken
first_none (Some bytes) (Some rest) at n into taken none end =
    let is : bytes ≡ [] = taken ∙ ap (λ m. take m into ++ rest) none ∙ end in
    ap (λ (xs : List ℕ). first (cursor at xs)) is ∙ rw end refl

-- the byte that was taken
taken_one : (n : ℕ) (b : ℕ) (bytes rest : List ℕ) → n ≡ 1 → bytes ≡ take n (b ∷ []) ++ rest → bytes ≡ b ∷ rest
taken_one n b bytes rest one taken = taken ∙ ap (λ m. take m (b ∷ []) ++ rest) one

-- it begins a message, or one that may not begin so late

pub first_found : (old new : Option (List ℕ)) (at n : ℕ) (into : List ℕ) → Consumes old new (take n into) → n ≡ 1 → length into ≡ 1
    → at < MESSAGES_END → Finds first old at new (at + 1) (Ok (Some (get_or into 0 0)))
unfolding first
first_found old new at n [] taken one long early = absurd (omega arith)
first_found old new at n (b ∷ c ∷ into) taken one long early = absurd (omega arith)
first_found None new at n (b ∷ []) taken one long early = tt
first_found (Some bytes) None at n (b ∷ []) taken one long early = absurd taken
first_found (Some bytes) (Some rest) at n (b ∷ []) taken one long early = record {
  taken = b ∷ [];
  front = taken_one n b bytes rest one taken;
  place = omega arith;
  reads = λ more. let yes : nat_lt at MESSAGES_END ≡ true = lt-ltb at MESSAGES_END early in rw yes refl;
}

pub first_late : (old new : Option (List ℕ)) (at now n : ℕ) (into : List ℕ) → Consumes old new (take n into) → n ≡ 1 → length into ≡ 1
    → MESSAGES_END ≤ at → Finds first old at new now (Err (stop.BadMessage at 5))
unfolding first
first_late old new at now n [] taken one long late = absurd (omega arith)
first_late old new at now n (b ∷ c ∷ into) taken one long late = absurd (omega arith)
first_late None new at now n (b ∷ []) taken one long late = tt
first_late (Some bytes) None at now n (b ∷ []) taken one long late = absurd taken
first_late (Some bytes) (Some rest) at now n (b ∷ []) taken one long late =
    let is : bytes ≡ b ∷ rest = taken_one n b bytes rest one taken in
    let no : nat_lt at MESSAGES_END ≡ false = le-ltb at MESSAGES_END late in rw (is, no) refl

-- which message has a number, by its place in a list that is counted from 0
pub form_at : (n m : ℕ) → m ≡ n → (n ≡ 0 → ⊥) → slice_get forms (m - 1) ≡ nth n forms
form_at zero m is some = absurd (some refl)
form_at (suc n) m is some = let same : m - 1 ≡ n = omega arith in ap (slice_get forms) same
