-- The entries of an order: the ranges of their numbers.
use Rattle.std.specs.Prelude.{ℕ, ◌<◌, ◌≤◌, ◌^◌}
use Rattle.wf_calls.specs.declared.order.Turn.{Turn}

-- the value of an entry is a number of four bytes, as the code's type has it
abbrev pub IsEntry : Turn → Type 0
IsEntry t = t.value < 2 ^ 32

-- an entry of a film: its client, its code and its value are in range
pub record IsTurn (t : Turn) : Type 0 where
  pub client : t.client ≤ 7
  pub code : t.code ≤ 12
  pub value : IsEntry t
