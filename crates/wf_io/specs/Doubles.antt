-- The doubles in memory: what they hold, and at which calls they fail.
use Rattle.std.specs.Prelude.{ℕ, ◌+◌, ◌-◌, ◌^◌, List, min}

-- a source in memory: the bytes that it has left, how many it gives at most in one call, the numbers of the
-- calls at which it fails, and how many calls and faults there were
pub record Supply : Type 0 where
  pub left : List ℕ
  pub step : ℕ
  pub failing : List ℕ
  pub calls : ℕ
  pub faults : ℕ

-- a sink in memory: the bytes that it holds, how many it has room for, the numbers of the calls at which it
-- fails, and how many calls and faults there were
pub record Store : Type 0 where
  pub held : List ℕ
  pub room : ℕ
  pub failing : List ℕ
  pub calls : ℕ
  pub faults : ℕ

-- one more, up to the end of a u64
abbrev pub next_count : ℕ → ℕ
next_count n = min (n + 1) (2 ^ 64 - 1)
