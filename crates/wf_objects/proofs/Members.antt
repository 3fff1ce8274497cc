-- A table of members beside owners and what they own: what it tells of them, and that it still does after a change.
use Rattle.std.proofs.Common.{◌≡◌, ℕ, ◌+◌, Bool, true, false, not, cond, ◌&&◌, ◌||◌, ◌==◌, List, [], ◌∷◌, ◌++◌, length, filter, None}
use Rattle.std.proofs.Common.{Some, refl, sym, ap, ◌∙◌, if◌then◌else◌, arith}
use Rattle.std.specs.List.{list_any}
use Rattle.std.proofs.Math.Bool.{or-false, or-true}
use Rattle.std.proofs.lemmas.Bool.{and_from, and_parts, both_ways, eq-eqb, eqb-true, false_from_ne_true, ne_eqb}
use Rattle.std.proofs.lemmas.List.{length_push}
use Rattle.std.proofs.lemmas.List.Folds.{list_any-append}
use Rattle.wf_words.specs.Filtered.{any_left}
use Rattle.wf_words.specs.Found.{any_by, any_first, passes, some_at}
use Rattle.wf_words.specs.Keyed.{is_in}
use Rattle.wf_words.specs.Once.{by_number, is_in-without, without_itself}
use Rattle.wf_words.specs.Rising.{Rises, all_stay}
use Rattle.wf_links.specs.Lists.{lowest, without}
use Rattle.wf_members.specs.Membership.{Membership, is_open, members_of}
use Rattle.wf_members.specs.Calls.{Adds, Closes, HasNone, Opens, Removes}
use Rattle.wf_objects.specs.Tracks.{Tracks}

-- lists

pub any_more : {A : Type 0} (p : A → Bool) (xs : List A) (y : A) → list_any p (xs ++ y ∷ []) ≡ (p y || list_any p xs)
any_more p xs y =
    list_any-append p xs (y ∷ [])
    ∙ elim (p y) as (λ b. (list_any p xs || (b || false)) ≡ (b || list_any p xs)) [
      | true ↦ or-true (list_any p xs)
      | false ↦ or-false (list_any p xs)
    ]

-- what is left out is not there
pub any_out : {A : Type 0} (p q : A → Bool) → ((x : A) → q x ≡ true → p x ≡ true) → (xs : List A)
    → list_any q (filter (λ x. not (p x)) xs) ≡ false
any_out p q out [] = refl
any_out p q out (x ∷ xs) = by_test (p x) refl (any_out p q out xs)
  where
    by_test : (b : Bool) → p x ≡ b → list_any q (filter (λ y. not (p y)) xs) ≡ false
        → list_any q (cond (not b) (x ∷ filter (λ y. not (p y)) xs) (filter (λ y. not (p y)) xs)) ≡ false
    by_test true is later = later
    by_test false is later =
        let fails : q x ≡ false = false_from_ne_true (q x) (λ there. both_ways (p x) is (out x there)) in
        rw fails later

same_way : (a b : ℕ) → (a == b) ≡ (b == a)
same_way a b =
    by_number ((a == b) ≡ (b == a)) a b
    (λ is same. is ∙ sym (eq-eqb b a (sym same)))
    (λ other. other ∙ sym (ne_eqb b a (λ same. both_ways (a == b) other (eq-eqb a b (sym same)))))

-- of the elements with a number that pass a test, those that are left
pub any_but : {A : Type 0} (f : A → ℕ) (q : A → Bool) (n m : ℕ) (xs : List A)
    → list_any (λ x. (f x == n) && q x) (filter (λ x. not (f x == m)) xs) ≡ (not (n == m) && list_any (λ x. (f x == n) && q x) xs)
any_but f q n m xs =
    by_number (list_any (λ x. (f x == n) && q x) (filter (λ x. not (f x == m)) xs)
    ≡ (not (n == m) && list_any (λ x. (f x == n) && q x) xs)) n m
    (λ is same. rw (is, ← same) (any_out (λ x. f x == n) (λ x. (f x == n) && q x) (λ x there. (and_parts (f x == n) (q x) there).0) xs))
    (λ other. rw other (any_left (λ x. (f x == n) && q x) (λ x. f x == m) (λ x is.
    (let apart : (f x == n) ≡ false = ne_eqb (f x) n (λ same. both_ways (n == m) other
    (eq-eqb n m (sym same ∙ eqb-true (f x) m is))) in ap (λ b. b && q x) apart)) xs))

-- of those that pass a test and do not have the number, all
pub any_stays : {A : Type 0} (f : A → ℕ) (q : A → Bool) (n m : ℕ) (xs : List A) → list_any (λ x. f x == m) xs ≡ false
    → list_any (λ x. (f x == n) && q x) xs ≡ (not (n == m) && list_any (λ x. (f x == n) && q x) xs)
any_stays f q n m xs none =
    by_number (list_any (λ x. (f x == n) && q x) xs ≡ (not (n == m) && list_any (λ x. (f x == n) && q x) xs)) n m
    (λ is same. rw is (false_from_ne_true (list_any (λ x. (f x == n) && q x) xs) (λ there.
    both_ways (list_any (λ x. f x == m) xs) none (ap (λ k. list_any (λ x. f x == k) xs) (sym same)
    ∙ any_first (λ x. f x == n) q xs there))))
    (λ other. rw other refl)

-- one that leaves is one less
pub one_less : {A : Type 0} (f : A → ℕ) (n low : ℕ) (xs : List A) → Rises f low xs → list_any (λ x. f x == n) xs ≡ true
    → length (filter (λ x. not (f x == n)) xs) + 1 ≡ length xs
one_less f n low [] rises there = absurd cc
one_less f n low (x ∷ xs) rises there =
    by_number (length (filter (λ y. not (f y == n)) (x ∷ xs)) + 1 ≡ length (x ∷ xs)) (f x) n
    (λ is same. (let all : length (filter (λ y. not (f y == n)) xs) ≡ length xs =
    ap length (all_stay f n (f x) xs rises.1 (omega (arith, same))) in rw is (omega (arith, all))))
    (λ other. rw other (omega (arith, one_less f n (f x) xs rises.1 (rw other at there))))

nothing_in : (xs : List ℕ) → ((n : ℕ) → is_in n xs ≡ false) → xs ≡ []
nothing_in [] none = refl
nothing_in (x ∷ xs) none = absurd (both_ways (is_in x (x ∷ xs)) (none x) (ap (λ b. b || is_in x xs) (eq-eqb x x refl)))

pub lowest_in : (n : ℕ) (xs : List ℕ) → Some n ≡ lowest xs → is_in n xs ≡ true
lowest_in n [] is = absurd cc
lowest_in n (x ∷ xs) is = let here : x ≡ n = cc in ap (λ b. b || is_in n xs) (eq-eqb x n here)

-- those but one
is_in_less : (h n : ℕ) (xs : List ℕ) → is_in n (without h xs) ≡ (not (n == h) && is_in n xs)
is_in_less h n xs =
    by_number (is_in n (without h xs) ≡ (not (n == h) && is_in n xs)) n h
    (λ is same. rw (is, same) (without_itself h xs))
    (λ other. rw other (is_in-without n h xs (same_way h n ∙ other)))

-- nobody owns anything
pub none_tracked : (m : Membership) (owners members : ℕ) → HasNone members owners m → Tracks (owners, members) m [] []
none_tracked m owners members none =
    record {
      opened = none.closed;
      members_are = λ o h. ap (is_in h) (none.bare o);
      owner_count = none.no_owners;
      count = none.no_members;
      limits_are = none.limits_are;
    }

module _ (most : ℕ × ℕ) (m : Membership) (os : List ℕ) (ks : List (ℕ × ℕ)) (old : Tracks most m os ks) where
  -- what the members tell

  pub owns : (o h : ℕ) → is_in h (members_of o m) ≡ true → list_any (λ k. (k.0 == h) && (k.1 == o)) ks ≡ true
  owns o h there = sym (old.members_are o h) ∙ there

  -- what is owned is somebody's
  pub owner_of : (h : ℕ) → list_any (λ k. k.0 == h) ks ≡ true → (o : ℕ) × (is_in h (members_of o m) ≡ true)
  owner_of h live =
      let k = some_at (λ x. x.0 == h) ks live in (
        k.0.1,
        old.members_are k.0.1 h ∙ any_by (λ x. x.0 == h) (λ x. (x.0 == h) && (x.1 == k.0.1)) ks k.0 k.1
            (and_from (k.0.0 == h) (k.0.1 == k.0.1) (passes (λ x. x.0 == h) ks k.0 k.1) (eq-eqb k.0.1 k.0.1 refl)),
      )

  -- what is not owned is nobody's
  pub nobodys : (h : ℕ) → list_any (λ k. k.0 == h) ks ≡ false → (o : ℕ) → is_in h (members_of o m) ≡ false
  nobodys h none o =
      old.members_are o h ∙ false_from_ne_true (list_any (λ k. (k.0 == h) && (k.1 == o)) ks) (λ there.
      both_ways (list_any (λ k. k.0 == h) ks) none (any_first (λ k. k.0 == h) (λ k. k.1 == o) ks there))

  -- one who owns nothing has no members, and the other way round

  pub bare : (o : ℕ) → list_any (λ k. k.1 == o) ks ≡ false → members_of o m ≡ []
  bare o none =
      nothing_in (members_of o m) (λ h. old.members_are o h
      ∙ false_from_ne_true (list_any (λ k. (k.0 == h) && (k.1 == o)) ks) (λ there.
      (let k = some_at (λ x. (x.0 == h) && (x.1 == o)) ks there in
      both_ways (list_any (λ x. x.1 == o) ks) none (any_by (λ x. (x.0 == h) && (x.1 == o)) (λ x. x.1 == o) ks k.0 k.1
      (and_parts (k.0.0 == h) (k.0.1 == o) (passes (λ x. (x.0 == h) && (x.1 == o)) ks k.0 k.1)).1))))

  pub owns_nothing : (o : ℕ) → None ≡ lowest (members_of o m) → list_any (λ k. k.1 == o) ks ≡ false
  owns_nothing o none = false_from_ne_true (list_any (λ k. k.1 == o) ks) (λ there.
      (let k = some_at (λ x. x.1 == o) ks there in
      let named = any_by (λ x. x.1 == o) (λ x. (x.0 == k.0.0) && (x.1 == o)) ks k.0 k.1
      (and_from (k.0.0 == k.0.0) (k.0.1 == o) (eq-eqb k.0.0 k.0.0 refl) (passes (λ x. x.1 == o) ks k.0 k.1)) in
      both_ways (is_in k.0.0 (members_of o m)) (ap (is_in k.0.0) (no_lowest (members_of o m) none))
      (old.members_are o k.0.0 ∙ named)))
    where
      no_lowest : (xs : List ℕ) → None ≡ lowest xs → xs ≡ []
      no_lowest [] is = refl
      no_lowest (x ∷ xs) is = absurd cc

  module _ (new : Membership) where
    -- one more owner, or one less

    pub owner_tracked : (x : ℕ) → Opens x m new → Tracks most new (os ++ x ∷ []) ks
    owner_tracked x opens =
        record {
          opened = λ o. opens.opened o ∙ ap (λ b. b || is_open o m) (same_way o x)
              ∙ ap (λ b. (x == o) || b) (old.opened o) ∙ sym (any_more (λ y. y == o) os x);
          members_are = λ o h. ap (is_in h) (opens.members o) ∙ old.members_are o h;
          owner_count = omega (arith, opens.owner_count, old.owner_count, length_push os x);
          count = opens.count ∙ old.count;
          limits_are = opens.limits_stay ∙ old.limits_are;
        }

    pub owner_untracked : (x : ℕ) → Closes x m new → Rises (λ o. o) 0 os → is_in x os ≡ true
        → Tracks most new (filter (λ o. not (o == x)) os) ks
    owner_untracked x closes rises live =
        record {
          opened = λ o. closes.closed o ∙ ap (λ b. not (o == x) && b) (old.opened o) ∙ sym (is_in_less x o os);
          members_are = λ o h. ap (is_in h) (closes.members o) ∙ old.members_are o h;
          owner_count = omega (arith, closes.owner_count, old.owner_count, one_less (λ o. o) x 0 os rises live);
          count = closes.count ∙ old.count;
          limits_are = closes.limits_stay ∙ old.limits_are;
        }

    -- one more that is owned, or one less

    pub owned_tracked : (o h : ℕ) (ls : List (ℕ × ℕ)) → Adds o h m new
        → ((p : ℕ × ℕ → Bool) → list_any p ls ≡ (p (h, o) || list_any p ks)) → length ls ≡ length ks + 1 → Tracks most new os ls
    owned_tracked o h ls adds all longer =
        record {
          opened = λ x. adds.opened x ∙ old.opened x;
          members_are = λ x n. ap (is_in n) (adds.members x) ∙ more x n (x == o) refl ∙ sym (all (λ k. (k.0 == n) && (k.1 == x)));
          owner_count = adds.owner_count ∙ old.owner_count;
          count = omega (arith, adds.count, old.count, longer);
          limits_are = adds.limits_stay ∙ old.limits_are;
        }
      where
        more : (x n : ℕ) (b : Bool) → (x == o) ≡ b → is_in n (if b then h ∷ members_of x m else members_of x m)
            ≡ (((h == n) && (o == x)) || list_any (λ k. (k.0 == n) && (k.1 == x)) ks)
        more x n true is =
            let own : (o == x) ≡ true = same_way o x ∙ is in
            rw own (ap (λ b. (h == n) || b) (old.members_are x n)
            ∙ elim (h == n) as (λ b. (b || list_any (λ k. (k.0 == n) && (k.1 == x)) ks)
            ≡ ((b && true) || list_any (λ k. (k.0 == n) && (k.1 == x)) ks)) [ true ↦ refl | false ↦ refl ])
        more x n false is =
            let other : (o == x) ≡ false = same_way o x ∙ is in
            rw other (old.members_are x n
            ∙ elim (h == n) as (λ b. list_any (λ k. (k.0 == n) && (k.1 == x)) ks
            ≡ ((b && false) || list_any (λ k. (k.0 == n) && (k.1 == x)) ks)) [ true ↦ refl | false ↦ refl ])

    pub owned_untracked : (h : ℕ) (ls : List (ℕ × ℕ)) → Removes h m new
        → ((o n : ℕ) → list_any (λ k. (k.0 == n) && (k.1 == o)) ls ≡ (not (n == h) && list_any (λ k. (k.0 == n) && (k.1 == o)) ks))
        → length ls + 1 ≡ length ks → Tracks most new os ls
    owned_untracked h ls removes all shorter =
        record {
          opened = λ o. removes.opened o ∙ old.opened o;
          members_are = λ o n. ap (is_in n) (removes.members o) ∙ is_in_less h n (members_of o m)
              ∙ ap (λ b. not (n == h) && b) (old.members_are o n) ∙ sym (all o n);
          owner_count = removes.owner_count ∙ old.owner_count;
          count = omega (arith, removes.count, old.count, shorter);
          limits_are = removes.limits_stay ∙ old.limits_are;
        }
