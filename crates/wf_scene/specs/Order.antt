-- The order of the inserted elements: a list of handles from the bottom up. The number 0 is no handle; it stands for the
-- bottom.
use Rattle.std.specs.Prelude.{◌≡◌, ℕ, ◌+◌, Bool, false, not, ◌&&◌, ◌||◌, ◌==◌, nat_le, List, [], ◌∷◌, filter, flat_map, length, slice_index}
use Rattle.std.specs.Prelude.{position, Option, option_map, if◌then◌else◌}
use Rattle.wf_words.specs.Keyed.{is_in}
use Rattle.wf_scene.specs.declared.TheConstants.{MOST_INSERTED}

-- no number stands twice
abbrev pub AreApart : List ℕ → Type 0
AreApart [] = Unit {0}
AreApart (n ∷ ns) = (is_in n ns ≡ false) × AreApart ns

abbrev pub without : ℕ → List ℕ → List ℕ
without handle order = filter (λ h. not (h == handle)) order

-- a handle, and directly above it another where it is the base of that
abbrev pub with_next : ℕ → ℕ → ℕ → List ℕ
with_next base handle h = if h == base then h ∷ handle ∷ [] else h ∷ []

-- the order with a handle directly above another, or lowest where that is 0
abbrev pub put_above : ℕ → ℕ → List ℕ → List ℕ
put_above base handle order = if base == 0 then handle ∷ order else flat_map (with_next base handle) order

-- the order with a handle put or moved directly above another, or to the bottom; above itself it stays where it is
abbrev pub inserted : ℕ → ℕ → List ℕ → List ℕ
inserted handle base order = if handle == base then order else put_above base handle (without handle order)

-- something may stand directly above this: the bottom, or an inserted element
abbrev pub is_base : ℕ → List ℕ → Bool
is_base base order = (base == 0) || is_in base order

-- the most are inserted, and this is none of them
abbrev pub has_no_room : ℕ → List ℕ → Bool
has_no_room handle order = nat_le MOST_INSERTED (length order) && not (is_in handle order)

-- how many stand below a handle, or none where it is not inserted
abbrev pub place_of : ℕ → List ℕ → Option ℕ
place_of handle order = position (λ h. h == handle) order

-- the lowest handle, or 0
abbrev pub lowest : List ℕ → ℕ
lowest order = slice_index order 0

-- the handle directly above a place, or 0 above the highest
abbrev pub next_above : List ℕ → ℕ → ℕ
next_above order place = slice_index order (place + 1)

-- the handle directly below a place: with 0 put below the lowest, it stands at the same place
abbrev pub next_below : List ℕ → ℕ → ℕ
next_below order place = slice_index (0 ∷ order) place

-- the neighbour of an inserted handle, or 0
abbrev pub above : ℕ → List ℕ → Option ℕ
above handle order = option_map (next_above order) (place_of handle order)

abbrev pub below : ℕ → List ℕ → Option ℕ
below handle order = option_map (next_below order) (place_of handle order)
