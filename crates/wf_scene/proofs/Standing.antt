-- Where a handle stands after it was put into an order, how often it stands there, and what the other handles do.
use Rattle.std.proofs.Common.{◌≡◌, ◌≢◌, ℕ, zero, suc, ◌+◌, ◌<◌, Bool, true, false, not, cond, ◌==◌, List, [], ◌∷◌, ◌++◌, length, refl, sym}
use Rattle.std.proofs.Common.{ap, ◌∙◌, arith, Some}
use Rattle.std.specs.Prelude.{flat_map, slice_index, Ok}
use Rattle.std.proofs.lemmas.Bool.{eqb-true, eq-eqb, ne_eqb, lt-ltb, or_parts}
use Rattle.std.proofs.lemmas.Bool.Decides.{nat_tests}
use Rattle.std.proofs.lemmas.List.Sums.{sum_by-cons}
use Rattle.std.proofs.Math.Numerals.{one-add}
use Rattle.wf_words.specs.Keyed.{is_in}
use Rattle.wf_scene.specs.Order.{AreApart, without, with_next, inserted, is_base, below, has_no_room}
use Rattle.wf_scene.specs.Moves.{Move, put, take, left_after, moved, scene_after, times}
use Rattle.wf_scene.specs.Cached.{CachedScene}
use Rattle.wf_scene.specs.declared.attributes.Refused.TheVariants as refused
use Rattle.wf_words.specs.Refusals.{◌>>=◌, refuse_if}
use Rattle.wf_scene.proofs.Once.{first, none_out}
use Rattle.wf_scene.proofs.Kept.{apart_without, apart_inserted, absent_out, in_less}

-- a handle is not the lowest, and stands directly above another
record StandsAbove (base h : ℕ) (xs : List ℕ) : Type 0 where
  higher : 0 < first (λ x. x == h) xs
  within : first (λ x. x == h) xs < length xs
  under : slice_index (0 ∷ xs) (first (λ x. x == h) xs) ≡ base

-- behind its first, a list does not depend on it
behind_first : (x y n : ℕ) (xs : List ℕ) → 0 < n → slice_index (x ∷ xs) n ≡ slice_index (y ∷ xs) n
behind_first x y zero xs low = absurd (omega arith)
behind_first x y (suc n) xs low = refl

-- a handle that is none of an order's, put directly above one that is
stands_above : (base h : ℕ) (xs : List ℕ) → is_in h xs ≡ false → is_in base xs ≡ true → StandsAbove base h (flat_map (with_next base h) xs)
stands_above base h [] absent there = cc
stands_above base h (x ∷ xs) absent there = go (x == base) refl (stands_above base h xs parts.1)
  where
    parts : ((x == h) ≡ false) × (is_in h xs ≡ false)
    parts = or_parts (x == h) (is_in h xs) absent

    rest : List ℕ
    rest = flat_map (with_next base h) xs

    go : (b : Bool) → (x == base) ≡ b → (is_in base xs ≡ true → StandsAbove base h rest)
        → StandsAbove base h (cond b (x ∷ h ∷ []) (x ∷ []) ++ rest)
    go true e later =
        let itself = eq-eqb h h refl in
        record {
          higher = rw (parts.0, itself) (omega arith);
          within = rw (parts.0, itself) (omega arith);
          under = rw (parts.0, itself) (eqb-true x base e);
        }
    go false e later =
        let below = later (rw e at there) in
        record {
          higher = rw parts.0 (omega arith);
          within = rw parts.0 (omega (arith, below.within));
          under = rw (parts.0, one-add) (behind_first x 0 (first (λ z. z == h) rest) rest below.higher ∙ below.under);
        }

-- what stands directly below a handle that was put or moved
pub base_below : (h base : ℕ) (order : List ℕ) → is_base base order ≡ true → h ≢ base → below h (inserted h base order) ≡ Some base
base_below h base order there other = rw (ne_eqb h base other) (go (base == 0) refl)
  where
    rest : List ℕ
    rest = without h order

    go : (b : Bool) → (base == 0) ≡ b → below h (cond b (h ∷ rest) (flat_map (with_next base h) rest)) ≡ Some base
    go true e = rw (eq-eqb h h refl, lt-ltb 0 (suc (length rest)) (omega arith)) (ap Some (sym (eqb-true base 0 e)))
    go false e =
        let inside = in_less base h order (ne_eqb base h (λ same. other (sym same))) (rw e at there) in
        let stands = stands_above base h rest (absent_out h order) inside in
        rw (lt-ltb (first (λ x. x == h) (flat_map (with_next base h) rest)) (length (flat_map (with_next base h) rest)) stands.within)
        (ap Some stands.under)

-- without a handle, an order is the same before and after that handle was put or moved

without_put : (h base : ℕ) (xs : List ℕ) → without h (flat_map (with_next base h) xs) ≡ without h xs
without_put h base [] = refl
without_put h base (x ∷ xs) =
    let later = without_put h base xs in
    let itself = eq-eqb h h refl in
    grind (arith, nat_tests, later, itself)

pub others_stay : (h base : ℕ) (order : List ℕ) → without h (inserted h base order) ≡ without h order
others_stay h base order = go (h == base) (base == 0)
  where
    twice : without h (without h order) ≡ without h order
    twice = none_out (λ x. x == h) (without h order) (absent_out h order)

    go : (b c : Bool) → without h (cond b order (cond c (h ∷ without h order) (flat_map (with_next base h) (without h order))))
        ≡ without h order
    go true c = refl
    go false true = rw (eq-eqb h h refl) twice
    go false false = without_put h base (without h order) ∙ twice

-- how often a handle stands in an order in which none stands twice

times_none : (h : ℕ) (xs : List ℕ) → is_in h xs ≡ false → times h xs ≡ 0
times_none h [] absent = refl
times_none h (x ∷ xs) absent =
    let parts = or_parts (x == h) (is_in h xs) absent in
    let whole = sum_by-cons (λ z. cond (z == h) 1 0) x xs in
    let later = times_none h xs parts.1 in
    grind (arith, whole, later, parts.0)

times_once : (h : ℕ) (xs : List ℕ) → AreApart xs → is_in h xs ≡ true → times h xs ≡ 1
times_once h [] apart there = cc
times_once h (x ∷ xs) apart there = go (x == h) refl (times_once h xs apart.1)
  where
    whole : times h (x ∷ xs) ≡ cond (x == h) 1 0 + times h xs
    whole = sum_by-cons (λ z. cond (z == h) 1 0) x xs

    go : (b : Bool) → (x == h) ≡ b → (is_in h xs ≡ true → times h xs ≡ 1) → times h (x ∷ xs) ≡ 1
    go true e later =
        let none = times_none h xs (rw (eqb-true x h e) at apart.0) in
        grind (arith, whole, none, e)
    go false e later =
        let one = later (rw e at there) in
        grind (arith, whole, one, e)

-- no move makes a handle stand twice

after_insert : (c : CachedScene) (order : List ℕ) (illegal full : Bool) → AreApart c.order → AreApart order
    → AreApart
    (left_after c (refuse_if refused.IllegalArgument illegal >>=
    (λ _. refuse_if refused.Limit full >>= (λ _. Ok (record c { order = order }))))).order
after_insert c order true full before after = before
after_insert c order false true before after = before
after_insert c order false false before after = after

after_remove : (c : CachedScene) (order : List ℕ) (illegal : Bool) → AreApart c.order → AreApart order
    → AreApart (left_after c (refuse_if refused.IllegalArgument illegal >>= (λ _. Ok (record c { order = order })))).order
after_remove c order true before after = before
after_remove c order false before after = after

apart_moved : (c : CachedScene) (m : Move) → AreApart c.order → AreApart (moved c m).order
apart_moved c (put h base) apart =
    after_insert c (inserted h base c.order) (not (is_base base c.order)) (has_no_room h c.order) apart
    (apart_inserted h base c.order apart)
apart_moved c (take h) apart = after_remove c (without h c.order) (not (is_in h c.order)) apart (apart_without h c.order apart)

apart_run : (moves : List Move) (c : CachedScene) → AreApart c.order → AreApart (scene_after c moves).order
apart_run [] c apart = apart
apart_run (m ∷ moves) c apart = apart_run moves (moved c m) (apart_moved c m apart)

pub once_after : (c : CachedScene) (moves : List Move) (h : ℕ) → c.order ≡ [] → is_in h (scene_after c moves).order ≡ true
    → times h (scene_after c moves).order ≡ 1
once_after c moves h none there =
    let apart : AreApart c.order = rw none tt in
    times_once h (scene_after c moves).order (apart_run moves c apart) there
