-- The numbers that stand for themselves among the arguments of a message, by the bits of each.
use Rattle.std.specs.Prelude.{ℕ, ◌+◌, ◌%◌, ◌^◌, ℤ, List, [], ◌∷◌, slice_get, unwrap_or}
use Rattle.std.specs.Int.{cast_signed, w64}

-- the bits of the argument at a place, of which there are as many as the message has
abbrev pub bit_at : List ℕ → ℕ → ℕ
bit_at bits place = unwrap_or (slice_get bits place) 0

-- a number in two's complement
abbrev pub number_at : List ℕ → ℕ → ℤ
number_at bits place = cast_signed w64 (bit_at bits place)

-- four numbers
abbrev pub values_at : List ℕ → ℕ → List ℤ
values_at bits place =
    number_at bits place ∷ number_at bits (place + 1) ∷ number_at bits (place + 2) ∷ number_at bits (place + 3) ∷ []

-- a handle, whose argument is below 2^32
abbrev pub handle_at : List ℕ → ℕ → ℕ
handle_at bits place = bit_at bits place % 2 ^ 32
