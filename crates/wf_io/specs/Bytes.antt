-- The bytes that went into a sink, by what it may have taken before and after.
use Rattle.std.specs.Prelude.{ℕ, ◌+◌, ◌-◌, ◌<◌, ◌≤◌, List, ◌++◌, length, take}

module _ {S : Type 0} (took : S → List ℕ → Type 0) where
  -- whatever the sink may have taken before, it may now have taken that and then these bytes
  abbrev pub Puts : S → S → List ℕ → Type 0
  Puts old new bytes = (before : List ℕ) → took old before → took new (before ++ bytes)

  -- whatever the sink may have taken before, it may have taken now
  abbrev pub PutsNothing : S → S → Type 0
  PutsNothing old new = (before : List ℕ) → took old before → took new before

  -- of these bytes, which begin where `start` bytes were written, a front went into the sink, up to `written`
  pub record PutsPart (old new : S) (start : ℕ) (bytes : List ℕ) (written : ℕ) : Type 0 where
    pub least : start ≤ written
    pub short : written < start + length bytes
    pub front : Puts old new (take (written - start) bytes)
