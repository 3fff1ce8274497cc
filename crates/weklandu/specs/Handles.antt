-- What a handle owns.
--     may_free              the right to free a block of the heap
--     handle_owns R p x     where there is a value, it at p, and the right to free its block; else nothing
use mir.Syntax.{Ty}
use base.Fml.{Fml, ftrue}
use denote.RattleType.{RattleType}
use denote.RawPtr.{Ptr}
use Rattle.std.specs.Prelude.{ℕ, Option, None, Some}
use Rattle.std.specs.Box.Ownership.{box_owns}
use Rattle.std.specs.contracts.impls.GlobalAllocator.TheImpl.{ghosts}

abbrev pub may_free : Ty → Ptr → Fml
may_free = ghosts.dealloc_token (record { memory = record { seal = tt } })

abbrev pub handle_owns : (R : RattleType) → Ptr → Option R.Denot → Fml
handle_owns R p None = ftrue
handle_owns R p (Some x) = box_owns may_free R p x

-- 1 where there is a value
abbrev pub live_of : {X : Type 0} → Option X → ℕ
live_of None = 0
live_of (Some x) = 1
