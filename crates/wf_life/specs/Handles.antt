-- The handle table: how many objects were made, and the live handles with what they stand for.
use Rattle.std.proofs.Common.{arith}
use Rattle.std.specs.Prelude.{ℕ, ◌+◌, Bool, true, false, ◌&&◌, ◌==◌, nat_lt, not, List, [], ◌∷◌, ◌++◌, count_by, find, filter, Option}
use Rattle.std.specs.Prelude.{option_map}
use Rattle.std.specs.List.{list_any}
use Rattle.wf_words.specs.Rising.{Rises, RisesTo, rises_to, rises_to_filter, rises_to_more}
use Rattle.wf_life.specs.declared.Kind.{Kind}
use Rattle.wf_life.specs.declared.Kind.TheVariants as kind

-- the two kinds are one
abbrev pub same_kind : Kind → Kind → Bool
same_kind kind.Stream kind.Stream = true
same_kind kind.Device kind.Device = true
same_kind kind.Context kind.Context = true
same_kind kind.Element kind.Element = true
same_kind kind.Source kind.Source = true
same_kind kind.Mask kind.Mask = true
same_kind kind.DisplaySource kind.DisplaySource = true
same_kind _ _ = false

-- a live handle, its kind, and the key of its object
pub record Live : Type 0 where
  pub handle : ℕ
  pub kind : Kind
  pub key : ℕ

-- how many objects were made, and the live ones by rising handle
pub record Table : Type 0 where
  pub made : ℕ
  pub live : List Live

-- the handles rise, from above `low` up to `high` at most
abbrev pub IsRising : ℕ → List Live → ℕ → Type 0
IsRising low live high = RisesTo (λ l. l.handle) low live high

-- the live handles rise, and were all given out
abbrev pub IsOrderly : Table → Type 0
IsOrderly t = IsRising 0 t.live t.made

-- every handle was given out
abbrev pub is_full : ℕ → Bool
is_full made = not (nat_lt made 4294967291)

-- how many live objects are of a kind
abbrev pub live_count : Kind → List Live → ℕ
live_count k live = count_by (λ l. same_kind l.kind k) live

-- the key behind a handle of a kind
abbrev pub key_of : ℕ → Kind → List Live → Option ℕ
key_of handle k live = option_map (λ l. l.key) (find (λ l. (l.handle == handle) && same_kind l.kind k) live)

-- an object of some kind has the handle
abbrev pub is_live : ℕ → List Live → Bool
is_live handle live = list_any (λ l. l.handle == handle) live

-- the live objects but the one with this handle
abbrev pub without : ℕ → List Live → List Live
without handle live = filter (λ l. not (l.handle == handle)) live

-- one more object was made, and lives under the next handle
abbrev pub with_new : Kind → ℕ → Table → Table
with_new k key t = record { made = t.made + 1; live = t.live ++ record { handle = t.made + 1; kind = k; key = key } ∷ [] }

-- what is known of handles that rise

pub rises_live : (low high : ℕ) (live : List Live) → IsRising low live high → Rises (λ l. l.handle) low live
rises_live low high live rising = rises_to (λ (l : Live). l.handle) low high live rising

-- they still rise without one of them
pub rising_without : (h low high : ℕ) (live : List Live) → IsRising low live high → IsRising low (without h live) high
rising_without h low high live rising = rises_to_filter (λ (l : Live). l.handle) (λ (l : Live). not (l.handle == h)) low high live rising

-- and with the next one
pub rising_more : (low high : ℕ) (live : List Live) (k : Kind) (key : ℕ) → IsRising low live high
    → IsRising low (live ++ record { handle = high + 1; kind = k; key = key } ∷ []) (high + 1)
rising_more low high live k key rising =
    let new : Live = record { handle = high + 1; kind = k; key = key } in
    rises_to_more (λ (l : Live). l.handle) low high (high + 1) live new (omega arith) (omega arith) rising
