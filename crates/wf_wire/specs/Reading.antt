-- Reading a session's input from the left to the right, each field when it is whole, up to the first fault.
use Rattle.std.specs.Prelude.{ℕ, ◌+◌, Bool, ◌&&◌, nat_lt, nat_le, List, [], ◌∷◌, length, drop, Result, Ok, Err}
use Rattle.std.specs.Prelude.{if◌then◌else◌}
use Rattle.byteorder.specs.Endian.{big_number}

-- a place in the input, counted from its first byte, and the bytes from there on
pub record Cursor : Type 0 where
  pub at : ℕ
  pub left : List ℕ

-- a rule that is broken: at which byte of the input, its number, and the bytes behind the last one that was looked at
pub record Broken : Type 0 where
  pub at : ℕ
  pub rule : ℕ
  pub left : List ℕ

-- what was read and where reading goes on, or the first fault
abbrev pub Read : Type 0 → Type 0
Read A = Result (A × Cursor) Broken

abbrev pub Reader : Type 0 → Type 0
Reader A = Cursor → Read A

abbrev pub cursor : ℕ → List ℕ → Cursor
cursor at left = record { at = at; left = left }

abbrev pub broken : ℕ → ℕ → List ℕ → Broken
broken at rule left = record { at = at; rule = rule; left = left }

-- the input ends inside of a field: rule 4, at its length
abbrev pub ends : Cursor → Broken
ends c = broken (c.at + length c.left) 4 []

-- steps of reading

-- nothing is read
abbrev pub done : {A : Type 0} → A → Reader A
done x c = Ok (x, c)

-- a rule is broken at a place
abbrev pub breaks : {A : Type 0} → ℕ → ℕ → Reader A
breaks at rule c = Err (broken at rule c.left)

-- what is read behind what was read
abbrev pub behind : {A B : Type 0} → (A → Reader B) → Read A → Read B
behind f (Ok x) = f x.0 x.1
behind f (Err e) = Err e

infixl 10 ◌>>=◌
-- one step, and then another, or the fault of the first
abbrev pub ◌>>=◌ : {A B : Type 0} → Reader A → (A → Reader B) → Reader B
(read >>= f) c = behind f (read c)

-- a step for each element of a list, one after another
unfoldable pub each : {X A : Type 0} → (X → Reader A) → List X → Reader (List A)
each read [] = done []
each read (x ∷ xs) = do
  first ← read x
  others ← each read xs
  done (first ∷ others)

-- fields

-- a number of n bytes, the highest first
unfoldable pub number : ℕ → Reader ℕ
number n c = if nat_lt (length c.left) n then Err (ends c) else Ok (big_number n c.left, cursor (c.at + n) (drop n c.left))

-- one that passes a test, or else this rule is broken at it
unfoldable pub number_that : (ℕ → Bool) → ℕ → ℕ → Reader ℕ
number_that passes rule n c = (do
  found ← number n
  if passes found then done found else breaks c.at rule) c

-- one in a range, or else rule 1 is broken at it
abbrev pub number_within : ℕ → ℕ → ℕ → Reader ℕ
number_within low high n = number_that (λ x. nat_le low x && nat_le x high) 1 n
