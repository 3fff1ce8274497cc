-- A number of a call as a natural number: a negative one is 0.
use Rattle.std.specs.Prelude.{ℕ, ℤ, pos, negsuc}

-- a count that a whole number is, and 0 for a negative one
abbrev pub count_of : ℤ → ℕ
count_of (pos n) = n
count_of (negsuc n) = 0
