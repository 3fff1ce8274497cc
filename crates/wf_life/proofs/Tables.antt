-- The map of the handle table against the list of live objects, and the counts.
use Rattle.std.proofs.Common.{◌≡◌, ℕ, ◌+◌, ◌-◌, ◌<◌, ◌≤◌, true, false, cond, ◌==◌, not, List, [], ◌∷◌, ◌++◌, map, length, Option, None}
use Rattle.std.proofs.Common.{Some, is_some, refl, ap, ◌∙◌, arith, slice_set, slice_index, eq-eqb}
use Rattle.std.specs.Ordering.{nat_cmp}
use Rattle.std.specs.BTreeMap.{insert_entry, is_at}
use Rattle.std.specs.Map.{lookup, remove_entry}
use Rattle.std.proofs.lemmas.Grind.{common_steps}
use Rattle.std.proofs.lemmas.Bool.Decides.{nat_tests}
use Rattle.std.proofs.lemmas.List.{map-append}
use Rattle.std.proofs.lemmas.List.Sums.{sum_by-cons, sum_by-append, count_by-le-length}
use Rattle.wf_life.specs.declared.Kind.{Kind}
use Rattle.wf_life.specs.declared.Kind.TheVariants as kind
use Rattle.wf_life.specs.declared.handles.Object.{Object}
use Rattle.wf_life.specs.contracts.Kind.{the_type}
use denote.Enum.Bare.{sameb}
use Rattle.wf_life.specs.Handles.{Live, IsRising, same_kind, live_count, key_of, is_live, without}
use Rattle.wf_life.specs.Inside.{place_of, live_of, IsTally}

-- rising handles have room between the bounds
pub rising_room : (low high : ℕ) (live : List Live) → IsRising low live high → low + length live ≤ high
rising_room low high [] rising = omega arith
rising_room low high (l ∷ live) rising = omega (arith, rising_room l.handle high live rising.1)

-- a handle above all others comes last
pub insert_last : (low high n : ℕ) (o : Object) (es : List (ℕ × Object)) → IsRising low (map live_of es) high → high < n
    → insert_entry nat_cmp es n o ≡ es ++ (n, o) ∷ []
insert_last low high n o [] rising above = refl
insert_last low high n o (e ∷ es) rising above =
    let later = insert_last e.0 high n o es rising.1 above in
    let room = rising_room e.0 high (map live_of es) rising.1 in
    grind (arith, nat_tests, later, room)

-- the list after the map took the next handle
pub live_made : (made : ℕ) (o : Object) (es after : List (ℕ × Object)) → IsRising 0 (map live_of es) made
    → after ≡ insert_entry nat_cmp es (made + 1) o → map live_of after ≡ map live_of es ++ live_of (made + 1, o) ∷ []
live_made made o es after rising is =
    ap (map live_of) (is ∙ insert_last 0 made (made + 1) o es rising (omega arith)) ∙ map-append live_of es ((made + 1, o) ∷ [])

-- the list keeps rising with a new last one
pub rising_push : (low high : ℕ) (live : List Live) (l : Live) → IsRising low live high → high < l.handle
    → IsRising low (live ++ l ∷ []) l.handle
rising_push low high [] l rising above = (omega arith, omega arith)
rising_push low high (x ∷ live) l rising above = (rising.0, rising_push x.handle high live l rising.1 above)

-- no handle that is lower than all is taken out
pub without_above : (low high h : ℕ) (live : List Live) → IsRising low live high → h ≤ low → without h live ≡ live
without_above low high h [] rising up = refl
without_above low high h (l ∷ live) rising up =
    let later = without_above l.handle high h live rising.1 (omega arith) in
    grind (arith, nat_tests, later)

-- the map without a key is the list without the handle
pub remove_without : (low high h : ℕ) (es : List (ℕ × Object)) → IsRising low (map live_of es) high
    → map live_of (remove_entry (is_at (nat_cmp h)) es) ≡ without h (map live_of es)
remove_without low high h [] rising = refl
remove_without low high h (e ∷ es) rising =
    let later = remove_without e.0 high h es rising.1 in
    let above = λ (up : h ≤ e.0). without_above e.0 high h (map live_of es) rising.1 up in
    grind (arith, nat_tests, later, above)

-- a list that rises from above a bound does so from above a lower one
rising_lower : (low least high : ℕ) (live : List Live) → IsRising least live high → low ≤ least → IsRising low live high
rising_lower low least high [] rising under = omega arith
rising_lower low least high (l ∷ live) rising under = (omega arith, rising.1)

-- the list without a handle keeps rising
pub rising_without : (low high h : ℕ) (live : List Live) → IsRising low live high → IsRising low (without h live) high
rising_without low high h [] rising = rising
rising_without low high h (l ∷ live) rising =
    let later = rising_without l.handle high h live rising.1 in
    elim (l.handle == h) as (λ b. IsRising low (cond (not b) (l ∷ without h live) (without h live)) high) [
      | true ↦ rising_lower low l.handle
          high (without h live) later (omega arith)
      | false ↦ (rising.0, later)
    ]

-- no handle above all is live
pub is_live_above : (low high h : ℕ) (live : List Live) → IsRising low live high → high < h → is_live h live ≡ false
is_live_above low high h [] rising above = refl
is_live_above low high h (l ∷ live) rising above =
    let later = is_live_above l.handle high h live rising.1 above in
    let room = rising_room l.handle high live rising.1 in
    grind (arith, nat_tests, later, room)

-- a handle is live where the map has it
pub is_live_lookup : (h : ℕ) (es : List (ℕ × Object)) → is_live h (map live_of es) ≡ is_some (lookup (is_at (nat_cmp h)) es)
is_live_lookup h [] = refl
is_live_lookup h (e ∷ es) =
    let later = is_live_lookup h es in
    grind (arith, nat_tests, later)

-- the key of what the map found, where its kind is the one that was asked for
abbrev pub found_key : Kind → Option Object → Option ℕ
found_key k None = None
found_key k (Some o) = cond (same_kind o.kind k) (Some o.key) None

-- a handle that is lower than all stands for nothing
key_of_below : (low high h : ℕ) (k : Kind) (live : List Live) → IsRising low live high → h ≤ low → key_of h k live ≡ None
key_of_below low high h k [] rising under = refl
key_of_below low high h k (l ∷ live) rising under =
    let later = key_of_below l.handle high h k live rising.1 (omega arith) in
    grind (arith, nat_tests, later)

-- the key behind a handle of a kind, by the map
pub key_of_lookup : (low high h : ℕ) (k : Kind) (es : List (ℕ × Object)) → IsRising low (map live_of es) high
    → key_of h k (map live_of es) ≡ found_key k (lookup (is_at (nat_cmp h)) es)
key_of_lookup low high h k [] rising = refl
key_of_lookup low high h k (e ∷ es) rising =
    let later = key_of_lookup e.0 high h k es rising.1 in
    let below = λ (under : h ≤ e.0). key_of_below e.0 high h k (map live_of es) rising.1 under in
    grind (arith, nat_tests, later, below)

-- 1 where an object is of a kind
abbrev pub one_if : Kind → Live → ℕ
one_if k l = cond (same_kind l.kind k) 1 0

-- one more object counts where its kind is asked for
pub count_push : (k : Kind) (live : List Live) (l : Live) → live_count k (live ++ l ∷ []) ≡ live_count k live + one_if k l
count_push k live l = omega (arith, sum_by-append (one_if k) live (l ∷ []))

-- and the object that is taken out counts no more
pub count_without : (h : ℕ) (k : Kind) (o : Object) (es : List (ℕ × Object)) → lookup (is_at (nat_cmp h)) es ≡ Some o
    → live_count k (map live_of (remove_entry (is_at (nat_cmp h)) es)) + cond (same_kind o.kind k) 1 0 ≡ live_count k (map live_of es)
count_without h k o [] found = cc
count_without h k o (e ∷ es) found =
    let later = λ (found_later : lookup (is_at (nat_cmp h)) es ≡ Some o). count_without h k o es found_later in
    let whole = sum_by-cons (one_if k) (live_of e) (map live_of es) in
    let rest = sum_by-cons (one_if k) (live_of e) (map live_of (remove_entry (is_at (nat_cmp h)) es)) in
    grind (arith, nat_tests, later, whole, rest)

-- kinds are the same where their places are
same_place : (a b : Kind) → same_kind a b ≡ (place_of a == place_of b)
same_place kind.Stream kind.Stream = refl
same_place kind.Device kind.Device = refl
same_place kind.Context kind.Context = refl
same_place kind.Element kind.Element = refl
same_place kind.Source kind.Source = refl
same_place kind.Mask kind.Mask = refl
same_place kind.DisplaySource kind.DisplaySource = refl
same_place _ _ = refl

pub place_below : (k : Kind) → place_of k < 7
place_below kind.Stream = omega arith
place_below kind.Device = omega arith
place_below kind.Context = omega arith
place_below kind.Element = omega arith
place_below kind.Source = omega arith
place_below kind.Mask = omega arith
place_below kind.DisplaySource = omega arith

-- the test that is derived for kinds
pub same_test : (a b : Kind) → sameb the_type a b ≡ same_kind a b
same_test kind.Stream kind.Stream = refl
same_test kind.Device kind.Device = refl
same_test kind.Context kind.Context = refl
same_test kind.Element kind.Element = refl
same_test kind.Source kind.Source = refl
same_test kind.Mask kind.Mask = refl
same_test kind.DisplaySource kind.DisplaySource = refl
same_test _ _ = refl

-- a kind has no more live objects than were made
pub tally_fits : (counts : List ℕ) (made : ℕ) (live : List Live) (k : Kind) → IsRising 0 live made → IsTally counts live
    → slice_index counts (place_of k) ≤ made
tally_fits counts made live k rising tally =
    omega (arith, tally k, count_by-le-length (λ l. same_kind l.kind k) live, rising_room 0 made live rising)

pub same_kind_self : (k : Kind) → same_kind k k ≡ true
same_kind_self k = same_place k k ∙ eq-eqb (place_of k) (place_of k) refl

-- the counts after one of a kind was set
count_set : (counts : List ℕ) (a k : Kind) (n : ℕ) → length counts ≡ 7
    → slice_index (slice_set counts (place_of a) n) (place_of k) ≡ cond (same_kind a k) n (slice_index counts (place_of k))
count_set counts a k n seven =
    let same = same_place a k in
    let below = place_below a in
    grind (arith, common_steps, nat_tests, same, below)

-- the counts go up with the object of a kind that was made
pub tally_more : (counts : List ℕ) (live : List Live) (l : Live) → length counts ≡ 7 → IsTally counts live
    → IsTally (slice_set counts (place_of l.kind) (slice_index counts (place_of l.kind) + 1)) (live ++ l ∷ [])
tally_more counts live l seven tally k =
    let set = count_set counts l.kind k (slice_index counts (place_of l.kind) + 1) seven in
    let pushed = count_push k live l in
    let was = tally k in
    let same = same_place l.kind k in
    grind (arith, nat_tests, set, pushed, was, same)

-- the counts go down with the object of a kind whose life ended
pub tally_less : (counts : List ℕ) (h : ℕ) (o : Object) (es : List (ℕ × Object)) → length counts ≡ 7
    → lookup (is_at (nat_cmp h)) es ≡ Some o → IsTally counts (map live_of es)
    → IsTally (slice_set counts (place_of o.kind) (slice_index counts (place_of o.kind) - 1))
    (map live_of (remove_entry (is_at (nat_cmp h)) es))
tally_less counts h o es seven found tally k =
    let set = count_set counts o.kind k (slice_index counts (place_of o.kind) - 1) seven in
    let taken = count_without h k o es found in
    let was = tally k in
    let same = same_place o.kind k in
    grind (arith, nat_tests, set, taken, was, same)
