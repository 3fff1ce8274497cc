-- The one history of all passes: the pass that made its last event has seen it all.
use Rattle.std.proofs.Common.{◌≡◌, ℕ, ◌+◌, ◌<◌, ◌≤◌, List, [], ◌∷◌, ◌++◌, length, get_or, append_assoc, refl, sym, ap, ◌∙◌, subst, inl, inr}
use Rattle.std.proofs.Common.{◌⊎◌, ⊎_elim, arith, zero, lt_of_not-le, suc}
use Rattle.std.proofs.lemmas.List.{append-nil, length-append}
use Rattle.std.specs.List.{All, Any}
use mathlib.Core.Logic.{dite}
use mathlib.Core.Option.{some, some-injective, some-ne-none}
use native.Mathlib.Decide.{dec_le}
use lib.ListN.{get_elem?}
use Rattle.atomic_table.proofs.Lists.{at_longer, at_index}
use Rattle.atomic_table.specs.Seated.{TableId}
use Rattle.wf_desk.specs.declared.event.Event.{Event}
use Rattle.wf_desk.specs.declared.view.Hand.{Hand}
use Rattle.wf_desk.specs.History.{IsPrefix, events_of}
use Rattle.wf_desk.specs.Pass.{Known}
use Rattle.wf_desk.specs.Desk.{AreAll}
use Rattle.wf_desk.specs.Ending.{hand_of, hands_of, AllOwn, AllKnown}
use Rattle.wf_desk.proofs.Logs.{events_of-own, events_of-append, length_snoc}

module _ {A : Type 0} where
  -- a list is empty, or has a last element
  last_of : (xs : List A) → (xs ≡ []) ⊎ ((ys : List A) × (y : A) × (xs ≡ ys ++ y ∷ []))
  last_of [] = inl refl
  last_of (x ∷ xs) =
      ⊎_elim (λ e. inr ([], x, ap (λ l. x ∷ l) e))
      (λ (t : (ys : List A) × (y : A) × (xs ≡ ys ++ y ∷ [])). inr (x ∷ t.0, t.1, ap (λ (l : List A). x ∷ l) t.2)) (last_of xs)

  ending : A → List A → A
  ending d [] = d
  ending d (x ∷ xs) = ending x xs

  ending_snoc : (d : A) (xs : List A) (y : A) → ending d (xs ++ y ∷ []) ≡ y
  unfolding ending
  ending_snoc d [] y = refl
  ending_snoc d (x ∷ xs) y = ending_snoc x xs y

  same_last : (xs ys : List A) (x y : A) → xs ++ x ∷ [] ≡ ys ++ y ∷ [] → x ≡ y
  same_last xs ys x y e = sym (ending_snoc x xs x) ∙ (ap (ending x) e ∙ ending_snoc x ys y)

  -- the element at a place, in the two ways of reading a list
  pub read : (l : List A) (i : ℕ) (a : A) → get_elem? l i ≡ some a → (i < length l) × ((d : A) → get_or l i d ≡ a)
  read [] i a e = absurd (some-ne-none a (sym e))
  read (x ∷ xs) zero a e = (omega arith, λ d. some-injective x a e)
  read (x ∷ xs) (suc i) a e = let h = read xs i a e in let lt = h.0 in (omega arith, h.1)

  -- the same facts of all elements, and of some element
  pub all_read : (P : A → Type 0) (l : List A) → All P l → (i : ℕ) (a : A) → get_elem? l i ≡ some a → P a
  all_read P l all i a e = let h = read l i a e in subst P (h.1 a) (all i a h.0)

  pub read_all : (P : A → Type 0) (l : List A) → ((i : ℕ) (a : A) → get_elem? l i ≡ some a → P a) → All P l
  read_all P l all i d lt = all i (get_or l i d) (at_index l i (get_or l i d) lt (same l i d lt))
    where
      same : (l : List A) (i : ℕ) (d : A) → i < length l → get_or l i d ≡ get_or l i (get_or l i d)
      same [] i d lt = absurd (omega arith)
      same (x ∷ xs) zero d lt = refl
      same (x ∷ xs) (suc i) d lt = same xs i d (omega arith)

  pub any_read : (P : A → Type 0) (l : List A) → Any P l → (i : ℕ) × (a : A) × (get_elem? l i ≡ some a) × P a
  any_read P l any = (any.0, any.1, at_index l any.0 any.1 any.2 (sym any.3), any.4)

  pub read_any : (P : A → Type 0) (l : List A) (i : ℕ) (a : A) → get_elem? l i ≡ some a → P a → Any P l
  read_any P l i a e p = let h = read l i a e in (i, a, h.0, h.1 a, p)

  -- an element between two lists
  pub middle : (xs : List A) (x : A) (ys : List A) → get_elem? (xs ++ x ∷ ys) (length xs) ≡ some x
  middle [] x ys = refl
  middle (y ∷ xs) x ys = middle xs x ys

module _ {C R : Type 0} where
  -- what a pass has seen is all, where no later event is its client's and the last event is
  seen_all : (c : ℕ) (seen zs history : List (Event C R)) (e : Event C R) (ys : List (Event C R)) → history ≡ seen ++ zs
      → history ≡ ys ++ e ∷ []
      → e.client ≡ c → events_of c seen ≡ events_of c history → seen ≡ history
  seen_all c seen zs history e ys parts end own same = ⊎_elim
      (λ n. sym (parts ∙ (ap (λ l. seen ++ l) n ∙ append-nil seen)))
      (λ (t : (us : List (Event C R)) × (z : Event C R) × (zs ≡ us ++ z ∷ [])).
      let last : e ≡ t.1 = same_last ys (seen ++ t.0) e t.1 (sym end
      ∙ (parts ∙ (ap (λ l. seen ++ l) t.2 ∙ sym (append_assoc seen t.0 (t.1 ∷ []))))) in
      let a : length (events_of c history) ≡ length (events_of c seen) + length (events_of c zs) =
      ap (λ l. length (events_of c l)) parts
      ∙ (ap length (events_of-append c seen zs) ∙ length-append (events_of c seen) (events_of c zs)) in
      let b : length (events_of c zs) ≡ length (events_of c t.0) + 1 =
      ap (λ l. length (events_of c l)) t.2
      ∙ (ap length (events_of-own c t.0 t.1 (ap (λ x. x.client) (sym last) ∙ own)) ∙ length_snoc (events_of c t.0) t.1) in
      let d : length (events_of c seen) ≡ length (events_of c history) = ap length same in absurd (omega arith))
      (last_of zs)

module _ {O C R : Type 0} where
  -- the history is empty, or what one of the passes has seen
  pub whole : (ks : List (Known O C R)) (history : List (Event C R)) (count : ℕ)
      → ((client : ℕ) → client < count → (i : ℕ) × (k : Known O C R) × (get_elem? ks i ≡ some k) × (k.client ≡ client))
      → ((i : ℕ) (k : Known O C R) → get_elem? ks i ≡ some k → IsPrefix k.seen history
      × (events_of k.client k.seen ≡ events_of k.client history))
      → ((c : ℕ) → count ≤ c → events_of c history ≡ [])
      → (history ≡ []) ⊎ Any (λ k. k.seen ≡ history) ks
  whole ks history count each all no_other = ⊎_elim inl (λ (t : (ys : List (Event C R)) × (e : Event C R) × (history ≡ ys ++ e ∷ [])).
      let c : ℕ = t.1.client in
      let long : length (events_of c history) ≡ length (events_of c t.0) + 1 =
      ap (λ l. length (events_of c l)) t.2
      ∙ (ap length (events_of-own c t.0 t.1 refl) ∙ length_snoc (events_of c t.0) t.1) in
      dite (dec_le count c)
      (λ out. let n : length (events_of c history) ≡ 0 = ap length (no_other c out) in absurd (omega arith))
      (λ not. let p = each c (lt_of_not-le not) in let q = all p.0 p.1 p.2 in
      inr (read_any (λ k. k.seen ≡ history) ks p.0 p.1 p.2
      (seen_all p.1.client p.1.seen q.0.0 history t.1 t.0 q.0.1 t.2 (sym p.3) q.1))))
      (last_of history)

  pub at_hands : (ks : List (Known O C R)) (i : ℕ) (k : Known O C R) → get_elem? ks i ≡ some k → (j : ℕ)
      × (get_elem? (hands_of ks) j ≡ some (hand_of k))
  at_hands [] i k e = absurd (some-ne-none k (sym e))
  at_hands (x ∷ ks) zero k e =
      (length (hands_of ks), middle (hands_of ks) (hand_of x) [] ∙ ap (λ y. some (hand_of y)) (some-injective x k e))
  at_hands (x ∷ ks) (suc i) k e = let t = at_hands ks i k e in (t.0, at_longer (hands_of ks) (hand_of x ∷ []) t.0 (hand_of k) t.1)

  pub own_more : (k : Known O C R) (ks : List (Known O C R)) → k.mine ≡ events_of k.client k.seen → AllOwn ks → AllOwn (k ∷ ks)
  own_more k ks own all zero y e = subst (λ z. z.mine ≡ events_of z.client z.seen) (some-injective k y e) own
  own_more k ks own all (suc i) y e = all i y e

  pub own_none : AllOwn {O = O} {C = C} {R = R} []
  own_none i k e = absurd (some-ne-none k (sym e))

  -- each client has its hand
  pub covers : (desk : TableId) (count : ℕ) (ks : List (Known O C R)) → AreAll desk count ks → (c : ℕ) → c < count
      → (j : ℕ) × (h : Hand C R) × (get_elem? (hands_of ks) j ≡ some h) × (h.client ≡ c)
  covers desk count ks all c lt =
      let k = any_read (λ k. k.client ≡ c) ks (all.each c lt) in let t = at_hands ks k.0 k.1 k.2 in
      (t.0, hand_of k.1, t.1, k.3)

  -- each pass has seen a part of the history, and knows all its client's events
  pub each_pass : (ks : List (Known O C R)) (history : List (Event C R)) → AllKnown (hands_of ks) history → (i : ℕ) (k : Known O C R)
      → get_elem? ks i ≡ some k
      → (k.mine ≡ events_of k.client history) × IsPrefix k.seen history
  each_pass ks history known i k e = let t = at_hands ks i k e in known t.0 (hand_of k) t.1
