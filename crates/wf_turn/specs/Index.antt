-- Where a name stands first in a list of names, and a map that tells it.
use Rattle.std.specs.Prelude.{◌≡◌, ℕ, zero, suc, ◌<◌, List, [], ◌∷◌, length, map, get_or}
use Rattle.std.specs.Prelude.{Option, Some, None, if◌then◌else◌}
use Rattle.std.specs.Str.{bytes_eq}
use Rattle.wf_names.specs.Keys as names
use Rattle.wf_script.specs.declared.name.Name.{Name}
use Rattle.wf_turn.specs.declared.index.Index as declared

abbrev pub next_place : Option ℕ → Option ℕ
next_place None = None
next_place (Some n) = Some (suc n)

-- the place where a name stands first
abbrev pub place_in : Name → List Name → Option ℕ
place_in name [] = None
place_in name (n ∷ ns) = if bytes_eq n name then Some zero else next_place (place_in name ns)

abbrev pub names_of : declared.Index → List Name
names_of index = map (λ n. n.now) index.names.items

-- where the map tells that a name stands
abbrev pub told : declared.Index → Name → Option ℕ
told index name = names.told index.places name

-- the map tells the place where each name stands first, and so does the list for each name in it
pub record IsIndex (index : declared.Index) : Type 0 where
  pub places : (name : Name) → told index name ≡ place_in name (names_of index)
  pub count : length index.firsts.items ≡ length (names_of index)
  pub firsts : (i : ℕ) → i < length (names_of index)
      → place_in (get_or (names_of index) i []) (names_of index) ≡ Some (get_or index.firsts.items i 0)
