-- Values that are counted, each under a key. A pool is seen as a list: at the place of a key what is kept
-- under it, or nothing.
use Rattle.std.specs.Prelude.{◌≡◌, ◌≢◌, ℕ, ◌+◌, ◌-◌, ◌<◌, ◌==◌, if◌then◌else◌, List, Option, None, Some, IsSome, option_map, slice_index_or}
use Rattle.std.specs.Prelude.{slice_set}
use Rattle.std.specs.Option.{option_and_then}
use Rattle.wf_life.specs.declared.pool.Kept.{Kept}

module _ {T : Type 0} where
  -- what is kept under a key
  abbrev pub kept_at : ℕ → List (Option (Kept T)) → Option (Kept T)
  kept_at key pool = slice_index_or pool key None

  -- a value is kept under the key
  abbrev pub IsKept : ℕ → List (Option (Kept T)) → Type 0
  IsKept key pool = IsSome (kept_at key pool)

  -- the value under a key
  abbrev pub value_at : ℕ → List (Option (Kept T)) → Option T
  value_at key pool = option_map (λ kept. kept.value) (kept_at key pool)

  -- how many hold what is kept; 0 where nothing is
  abbrev pub count_of : Option (Kept T) → ℕ
  count_of None = 0
  count_of (Some kept) = kept.count

  -- how many hold the value under a key; 0 where the key is not kept
  abbrev pub count_at : ℕ → List (Option (Kept T)) → ℕ
  count_at key pool = count_of (kept_at key pool)

  -- each value that is kept has a holder
  abbrev pub IsHeld : List (Option (Kept T)) → Type 0
  IsHeld pool = (key : ℕ) → IsKept key pool → 0 < count_at key pool

  -- a value that has one holder
  abbrev pub first_kept : T → Kept T
  first_kept value = record { value = value; count = 1 }

  -- the new pool has this under the key, and what it had under every other
  pub record Changes (old new : List (Option (Kept T))) (key : ℕ) (slot : Option (Kept T)) : Type 0 where
    pub changed : kept_at key new ≡ slot
    pub others : (other : ℕ) → other ≢ key → kept_at other new ≡ kept_at other old

  -- one holder more
  abbrev pub one_more : Kept T → Kept T
  one_more kept = record kept { count = kept.count + 1 }

  -- one holder fewer; nothing where it was the last
  abbrev pub one_less : Kept T → Option (Kept T)
  one_less kept = if kept.count - 1 == 0 then None else Some (record kept { count = kept.count - 1 })

  -- the value, where its last holder lets it go
  abbrev pub let_go : Kept T → Option T
  let_go kept = if kept.count - 1 == 0 then Some kept.value else None

  -- the pool with one holder more of a key's value
  abbrev pub retained : ℕ → List (Option (Kept T)) → List (Option (Kept T))
  retained key pool = slice_set pool key (option_map one_more (kept_at key pool))

  -- the pool with one holder fewer of a key's value, which is gone where that was the last
  abbrev pub released : ℕ → List (Option (Kept T)) → List (Option (Kept T))
  released key pool = slice_set pool key (option_and_then one_less (kept_at key pool))

  -- what a holder that lets go of a key's value gets: the value, where it was the last
  abbrev pub released_value : ℕ → List (Option (Kept T)) → Option T
  released_value key pool = option_and_then let_go (kept_at key pool)

  -- another value with the same holders
  abbrev pub holding : T → Kept T → Kept T
  holding value kept = record kept { value = value }

  -- the pool with another value under a kept key
  abbrev pub with_value : ℕ → List (Option (Kept T)) → T → List (Option (Kept T))
  with_value key pool value = slice_set pool key (option_map (holding value) (kept_at key pool))
