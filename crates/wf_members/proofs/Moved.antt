-- Nodes in lists: which list has one, and a node that is moved into another list.
use Rattle.std.proofs.Common.{◌≡◌, ◌≢◌, ℕ, zero, suc, ◌<◌, true, false, cond, ◌==◌, List, [], ◌∷◌, length, set, slice_get}
use Rattle.std.proofs.Common.{option_and_then, find, is_some, IsSome, Option, Some, None, refl, sym, ap, ◌∙◌, inl, inr, arith}
use Rattle.std.proofs.Common.{get_or-set_same, get_or-set_other, length-set}
use Rattle.std.specs.Prelude.{slice_index}
use Rattle.std.specs.List.{list_any}
use Rattle.std.proofs.Math.ListN.{get_or-map}
use Rattle.std.proofs.lemmas.Bool.{eq-eqb, eqb-true, eqb-false, ne_eqb, both_ways, cases_eq, or_left}
use Rattle.std.proofs.lemmas.List.{length-map}
use Rattle.std.proofs.lemmas.List.Quantifiers.{position-Some}
use Rattle.std.proofs.lemmas.Option.{get_or_from_slice_get}
use Rattle.wf_words.specs.Found.{any_at, any_found, get_position}
use Rattle.wf_words.specs.Keyed.{is_in}
use Rattle.wf_words.specs.Once.{by_number, is_in-without, without_itself}
use Rattle.wf_words.specs.Places.{within as in_range}
use Rattle.wf_links.specs.Lists.{list_at, list_of, removed, without}
use Rattle.wf_members.specs.Inside.{ArePlaced, moved}
use Rattle.wf_members.proofs.Handles.{written, unwritten}

-- a node that no list has is in none, and one that a list has is in one

pub nowhere : (n : ℕ) (lists : List (List ℕ)) → ((i : ℕ) → is_in n (list_at i lists) ≡ false) → list_of n lists ≡ None
nowhere n lists absent = go (list_of n lists) refl
  where
    go : (o : Option ℕ) → list_of n lists ≡ o → o ≡ None
    go None is = refl
    go (Some i) is = absurd (both_ways (is_in n (list_at i lists)) (absent i) (position-Some (is_in n) lists i [] is).1)

pub list_within : (n : ℕ) (lists : List (List ℕ)) (i : ℕ) → is_in n (list_at i lists) ≡ true → i < length lists
list_within n [] i there = absurd cc
list_within n (xs ∷ lists) zero there = omega arith
list_within n (xs ∷ lists) (suc i) there = omega (arith, list_within n lists i there)

pub somewhere : (n : ℕ) (lists : List (List ℕ)) (i : ℕ) → is_in n (list_at i lists) ≡ true → IsSome (list_of n lists)
somewhere n lists i there = go (list_of n lists) refl
  where
    go : (o : Option ℕ) → list_of n lists ≡ o → IsSome o
    go (Some k) is = refl
    go None is =
        let at = in_range lists i (list_within n lists i there) in
        let found : None ≡ find (is_in n) lists = ap (option_and_then (slice_get lists)) (sym is) ∙ get_position (is_in n) lists in
        let here : is_in n at.0 ≡ true = rw (get_or_from_slice_get lists i at.0 [] at.1) at there in
        absurd (both_ways (list_any (is_in n) lists) (any_found (is_in n) lists ∙ ap is_some (sym found))
        (any_at (is_in n) lists i at.0 at.1 here))

-- the lists without a node

pub removed_at : (n : ℕ) (lists : List (List ℕ)) (i : ℕ) → list_at i (removed n lists) ≡ without n (list_at i lists)
removed_at n lists i = get_or-map (without n) lists i []

pub removed_absent : (n : ℕ) (lists : List (List ℕ)) → list_of n (removed n lists) ≡ None
removed_absent n lists = nowhere n (removed n lists) (λ i. rw removed_at (without_itself n (list_at i lists)))

-- the lists with a node moved into one of them

module _ (n list : ℕ) (lists : List (List ℕ)) (within : list < length lists) where
  less : list < length (removed n lists)
  less = omega (arith, within, length-map lists (without n))

  pub length_moved : length (moved n list lists) ≡ length lists
  length_moved = length-set (removed n lists) list (n ∷ list_at list (removed n lists)) ∙ length-map lists (without n)

  pub moved_here : (i : ℕ) → i ≡ list → list_at i (moved n list lists) ≡ n ∷ without n (list_at list lists)
  moved_here i same =
      rw same (get_or-set_same (removed n lists) list (n ∷ list_at list (removed n lists)) [] less
      ∙ ap (λ xs. n ∷ xs) (removed_at n lists list))

  pub moved_other : (i : ℕ) → i ≢ list → list_at i (moved n list lists) ≡ without n (list_at i lists)
  moved_other i other =
      get_or-set_other (removed n lists) list i (n ∷ list_at list (removed n lists)) [] other ∙ removed_at n lists i

  -- the node is in that list alone, and others are where they were

  pub itself_in : (i : ℕ) → is_in n (list_at i (moved n list lists)) ≡ (i == list)
  itself_in i =
      elim (cases_eq i list) [
        | inl same ↦ rw (moved_here i same, eq-eqb i list same) (or_left (n == n) (is_in n (without n (list_at list lists)))
            (eq-eqb n n refl))
        | inr other ↦ rw (moved_other i other, ne_eqb i list other) (without_itself n (list_at i lists))
      ]

  pub other_in : (m i : ℕ) → (n == m) ≡ false → is_in m (list_at i (moved n list lists)) ≡ is_in m (list_at i lists)
  other_in m i apart =
      elim (cases_eq i list) [
        | inl same ↦ rw (moved_here i same, apart, same) (is_in-without m n (list_at list lists) apart)
        | inr other ↦ rw (moved_other i other) (is_in-without m n (list_at i lists) apart)
      ]

-- nodes stay placed where one is moved into the list that its new member tells
module _ (ms : List ℕ) (lists : List (List ℕ)) (free : ℕ) (old : ArePlaced ms lists free) (n list x : ℕ) (node : n < length ms)
    (within : list < length lists) (told : (x == 0) ≡ (list == free)) where
  pub still_placed : ArePlaced (set ms n x) (moved n list lists) free
  still_placed =
      record {
        list = λ m. cond (n == m) list (old.list m);
        there = λ m less. by_number (is_in m (list_at (cond (n == m) list (old.list m)) (moved n list lists)) ≡ true) n m
            (λ is same. rw (is, ← same) (itself_in n list lists within list ∙ eq-eqb list list refl))
            (λ other. rw (other, other_in n list lists within m (old.list m) other) (old.there m (omega (arith, less, length-set ms n x))));
        only = λ m i there. by_number ((m < length (set ms n x)) × (cond (n == m) list (old.list m) ≡ i)) n m
            (λ is same. rw is (
              omega (arith, node, same, length-set ms n x),
              sym (eqb-true i list (sym (itself_in n list lists within i) ∙ (rw (← same) at there))),
            ))
            (λ other. (let was = old.only m i (sym (other_in n list lists within m i other) ∙ there) in
            rw other (omega (arith, was.0, length-set ms n x), was.1)));
        bare = λ m less. by_number ((slice_index (set ms n x) m == 0) ≡ (cond (n == m) list (old.list m) == free)) n m
            (λ is same. rw (is, written ms n x node m (sym same)) told)
            (λ other. rw (other, unwritten ms n x node m (λ same. eqb-false n m other (sym same)))
            (old.bare m (omega (arith, less, length-set ms n x))));
      }
