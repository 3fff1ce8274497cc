-- The adapters over std's readers and writers.
use Rattle.std.specs.Prelude.{ℕ, List, Option}

-- a source over a reader: the bytes that the reader has left, where it tells them, and how many calls failed
pub record Reading : Type 0 where
  pub left : Option (List ℕ)
  pub faults : ℕ
