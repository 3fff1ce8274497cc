-- Keys by which a map finds names: a number that the letters write, and then the letters.
use Rattle.std.specs.Prelude.{ℕ, ◌+◌, ◌*◌, ◌%◌, ◌^◌, List, fold, Option}
use Rattle.std.specs.Borrow.{Bor}
use Rattle.std.specs.BTreeMap.{is_at}
use Rattle.std.specs.Map.{lookup}
use Rattle.std.specs.Cmp.Lexicographic.{slice_cmp}
use Rattle.std.specs.declared.cmp.Ordering.{Ordering}
use Rattle.std.specs.Ordering.{nat_cmp, ordering_then}

-- the number that is written by the last eight letters in base 256
unfoldable pub number_of : List ℕ → ℕ
number_of letters = fold (λ n letter. ((n * 2 ^ 8) % 2 ^ 64 + letter) % 2 ^ 64) 0 letters

-- the number of a name, and its letters
abbrev pub Key : Type 0
Key = ℕ × Bor (List ℕ)

-- how a name stands to a key: by the number first
abbrev pub name_cmp : List ℕ → Key → Ordering
name_cmp name key = ordering_then (nat_cmp (number_of name) key.0) (slice_cmp nat_cmp name key.1.now)

-- the value that the entries of a map tell of a name
abbrev pub told : {V : Type 0} → List (Key × V) → List ℕ → Option V
told entries name = lookup (is_at (name_cmp name)) entries
