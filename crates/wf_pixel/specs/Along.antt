-- How far a point lies from the start of a side.
use Rattle.std.specs.Prelude.{ℕ, ◌&&◌, ℤ, ◌-ℤ◌, nat_abs, int_le, nat_lt, Option, Some, None, if◌then◌else◌}

-- the distance of a point from the start of a side, or none outside the side
abbrev pub along : ℤ → ℕ → ℤ → Option ℕ
along start side z =
    if int_le start z && nat_lt (nat_abs (z -ℤ start)) side then Some (nat_abs (z -ℤ start)) else None
