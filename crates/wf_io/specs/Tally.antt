-- The sink that counts: what it keeps of the bytes that went into it.
use Rattle.std.specs.Prelude.{ℕ, ◌%◌, ◌^◌, List, length, sum}

-- how many bytes there were, modulo 2^64, and their sum, modulo 2^32
pub record Count : Type 0 where
  pub bytes : ℕ
  pub total : ℕ

-- the count of these bytes
abbrev pub count_of : List ℕ → Count
count_of bytes = record { bytes = length bytes % 2 ^ 64; total = sum bytes % 2 ^ 32 }
