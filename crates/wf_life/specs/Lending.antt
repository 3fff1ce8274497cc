-- What a pool ends as, where a `&mut` to one of its values is returned.
use Rattle.std.specs.Prelude.{ℕ, List, Option}
use Rattle.std.specs.Borrow.{LendsIf, Fml, RattleType, MutBor}
use Rattle.wf_life.specs.declared.pool.Kept.{Kept}
use Rattle.wf_life.specs.Pool.{with_value}
use Rattle.wf_life.specs.contracts.pool.Pool.{the_row}

-- once the borrow r ends, the key has the last value written through r; at `None` the pool is as it was
abbrev pub lends_value : (T : RattleType) → MutBor (List (Option (Kept T.Denot))) → ℕ → Option (MutBor T.Denot) → Fml
lends_value T pool key r = LendsIf (the_row T) T pool r (with_value key pool.now) pool.now
