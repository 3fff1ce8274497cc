-- Lists, histories that grow by one event, and sums over seats.
use Rattle.std.proofs.Common.{◌≡◌, ◌≢◌, ℕ, ◌+◌, ◌≤◌, true, false, cond, List, [], ◌∷◌, ◌++◌, map, length, set, append_assoc, refl}
use Rattle.std.proofs.Common.{sym, ap, ◌∙◌, arith, eq-eqb, ne_eqb, eqb, zero, suc, inl, inr, ◌⊎◌}
use Rattle.std.proofs.lemmas.List.{append-nil, length-append}
use mathlib.Core.Option.{some, some-ne-none, some-injective}
use lib.ListN.{get_elem?}
use Rattle.wf_desk.specs.declared.event.Event.{Event}
use Rattle.wf_desk.specs.declared.view.View.{View}
use Rattle.wf_desk.specs.History.{IsPrefix, IsLastAt, events_of, replay, IsLegal}
use Rattle.wf_desk.specs.Rule.{weight, weights, ticket_count, queue}

module _ {A : Type 0} where
  pub length_snoc : (xs : List A) (x : A) → length (xs ++ x ∷ []) ≡ length xs + 1
  length_snoc xs x = length-append xs (x ∷ [])

  -- what does not lengthen a list is empty
  pub nothing_more : (xs ys : List A) → xs ++ ys ≡ xs → ys ≡ []
  nothing_more xs [] e = refl
  nothing_more xs (y ∷ ys) e = let h : length (xs ++ y ∷ ys) ≡ length xs = ap length e in let l = length-append xs (y ∷ ys) in
      absurd (omega arith)

  -- reading a place after a write there
  pub set_at : (l : List A) (i : ℕ) (a b : A) → get_elem? l i ≡ some a → get_elem? (set l i b) i ≡ some b
  set_at [] i a b e = absurd (some-ne-none a (sym e))
  set_at (x ∷ xs) zero a b e = refl
  set_at (x ∷ xs) (suc i) a b e = set_at xs i a b e

  -- an element of two lists is one of the first, or one of the second
  pub in_either : (xs ys : List A) (i : ℕ) (b : A) → get_elem? (xs ++ ys) i ≡ some b
      → (get_elem? xs i ≡ some b) ⊎ ((k : ℕ) × (get_elem? ys k ≡ some b))
  in_either [] ys i b e = inr (i, e)
  in_either (x ∷ xs) ys zero b e = inl e
  in_either (x ∷ xs) ys (suc i) b e = in_either xs ys i b e

  -- an element of a mapped list comes from one of the list
  pub at_mapped : {B : Type 0} (f : A → B) (xs : List A) (i : ℕ) (b : B) → get_elem? (map f xs) i ≡ some b → (a : A)
      × (get_elem? xs i ≡ some a) × (f a ≡ b)
  at_mapped f [] i b e = absurd (some-ne-none b (sym e))
  at_mapped f (x ∷ xs) zero b e = (x, refl, some-injective (f x) b e)
  at_mapped f (x ∷ xs) (suc i) b e = at_mapped f xs i b e

module _ {C R : Type 0} where
  pub prefix_all : (xs : List (Event C R)) → IsPrefix xs xs
  prefix_all xs = ([], sym (append-nil xs))

  pub prefix_more : (xs ys zs : List (Event C R)) → IsPrefix xs ys → IsPrefix xs (ys ++ zs)
  prefix_more xs ys zs p = (p.0 ++ zs, ap (λ l. l ++ zs) p.1 ∙ append_assoc xs p.0 zs)

  pub events_of-append : (c : ℕ) (xs ys : List (Event C R)) → events_of c (xs ++ ys) ≡ events_of c xs ++ events_of c ys
  events_of-append c [] ys = refl
  events_of-append c (e ∷ es) ys =
      let h = events_of-append c es ys in
      elim (eqb e.client c) as (λ b. cond b (e ∷ events_of c (es ++ ys)) (events_of c (es ++ ys))
      ≡ cond b (e ∷ events_of c es) (events_of c es) ++ events_of c ys)
      [ true ↦ (λ i. e ∷ h i) | false ↦ h ]

  -- after an event of the client, and of another
  pub events_of-own : (c : ℕ) (xs : List (Event C R)) (e : Event C R) → e.client ≡ c → events_of c (xs ++ e ∷ []) ≡ events_of c xs ++ e ∷ []
  events_of-own c xs e h = events_of-append c xs (e ∷ []) ∙ ap (λ b. events_of c xs ++ cond b (e ∷ []) []) (eq-eqb e.client c h)

  pub events_of-other : (c : ℕ) (xs : List (Event C R)) (e : Event C R) → e.client ≢ c → events_of c (xs ++ e ∷ []) ≡ events_of c xs
  events_of-other c xs e h =
      events_of-append c xs (e ∷ []) ∙ (ap (λ b. events_of c xs ++ cond b (e ∷ []) []) (ne_eqb e.client c h)
      ∙ append-nil (events_of c xs))

  -- an event of the client stands last
  pub last_here : (c : ℕ) (xs : List (Event C R)) (e : Event C R) → e.client ≡ c → IsLastAt c (xs ++ e ∷ []) (length xs)
  last_here c xs e own = record { before = xs; last = e; after = []; parts = refl; place_is = refl; own = own; none_after = refl }

  -- what others add does not move the client's last event
  pub last_stays : (c : ℕ) (xs ys : List (Event C R)) (place : ℕ) → IsPrefix xs ys → events_of c ys ≡ events_of c xs → IsLastAt c xs place
      → IsLastAt c ys place
  last_stays c xs ys place p same l =
      let none_ : events_of c p.0 ≡ [] = nothing_more (events_of c xs) (events_of c p.0) (sym (events_of-append c xs p.0)
      ∙ (ap (events_of c) (sym p.1) ∙ same)) in
      record {
        before = l.before;
        last = l.last;
        after = l.after ++ p.0;
        parts = p.1 ∙ (ap (λ h. h ++ p.0) l.parts ∙ append_assoc l.before (l.last ∷ l.after) p.0);
        place_is = l.place_is;
        own = l.own;
        none_after = events_of-append c l.after p.0 ∙ λ i. l.none_after i ++ none_ i;
      }

module _ {O C R : Type 0} (after : O → ℕ → C → R → O) (may : O → ℕ → C → R → Type 0) where
  pub replay_snoc : (o : O) (xs : List (Event C R)) (e : Event C R)
      → replay after o (xs ++ e ∷ []) ≡ after (replay after o xs) e.client e.call e.reply
  replay_snoc o [] e = refl
  replay_snoc o (x ∷ xs) e = replay_snoc (after o x.client x.call x.reply) xs e

  pub legal_snoc : (o : O) (xs : List (Event C R)) (e : Event C R) → IsLegal after may o xs
      → may (replay after o xs) e.client e.call e.reply
      → IsLegal after may o (xs ++ e ∷ [])
  legal_snoc o [] e l m = (m, tt)
  legal_snoc o (x ∷ xs) e l m = (l.0, legal_snoc (after o x.client x.call x.reply) xs e l.1 m)

-- the sums over all seats, where one seat changes and where one is added
module _ {O C R : Type 0} where
  pub weights_set : (vs : List (View O C R)) (i : ℕ) (v w : View O C R) → get_elem? vs i ≡ some v
      → weights (set vs i w) + weight v ≡ weights vs + weight w
  weights_set [] i v w e = absurd (some-ne-none v (sym e))
  weights_set (x ∷ vs) zero v w e = let h : weight x ≡ weight v = ap weight (some-injective x v e) in omega arith
  weights_set (x ∷ vs) (suc i) v w e = let h = weights_set vs i v w e in omega arith

  pub weights_snoc : (vs : List (View O C R)) (w : View O C R) → weights (vs ++ w ∷ []) ≡ weights vs + weight w
  weights_snoc [] w = omega arith
  weights_snoc (x ∷ vs) w = let h = weights_snoc vs w in omega arith

  pub weights_at : (vs : List (View O C R)) (i : ℕ) (v : View O C R) → get_elem? vs i ≡ some v → weight v ≤ weights vs
  weights_at [] i v e = absurd (some-ne-none v (sym e))
  weights_at (x ∷ vs) zero v e = let h : weight x ≡ weight v = ap weight (some-injective x v e) in omega arith
  weights_at (x ∷ vs) (suc i) v e = let h = weights_at vs i v e in omega arith

  pub queue_set : (vs : List (View O C R)) (i : ℕ) (v w : View O C R) → get_elem? vs i ≡ some v
      → queue (set vs i w) + ticket_count v.stage ≡ queue vs + ticket_count w.stage
  queue_set [] i v w e = absurd (some-ne-none v (sym e))
  queue_set (x ∷ vs) zero v w e = let h : ticket_count x.stage ≡ ticket_count v.stage =
      ap (λ y. ticket_count y.stage) (some-injective x v e) in omega arith
  queue_set (x ∷ vs) (suc i) v w e = let h = queue_set vs i v w e in omega arith

  pub queue_snoc : (vs : List (View O C R)) (w : View O C R) → queue (vs ++ w ∷ []) ≡ queue vs + ticket_count w.stage
  queue_snoc [] w = omega arith
  queue_snoc (x ∷ vs) w = let h = queue_snoc vs w in omega arith
