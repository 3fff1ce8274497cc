-- Seats that are cut in two and made one keep the rule, and so does a new table.
use Rattle.std.proofs.Common.{◌≡◌, ◌≢◌, ℕ, ◌+◌, ◌<◌, ◌≤◌, eqb, true, List, [], ◌∷◌, ◌++◌, length, set, sum, sym, refl, ap, ◌∙◌, subst}
use Rattle.std.proofs.Common.{◌⊎◌, ⊎_elim, arith, Option, Some, None, vec_capacity, cond, inl, inr, le_refl, le_of_eq, length-set, eq-eqb}
use Rattle.std.proofs.Common.{ne_eqb, le_trans, zero, suc}
use Rattle.std.proofs.lemmas.Bool.{false≢true}
use Rattle.std.proofs.lemmas.Option.{none-some}
use Rattle.std.proofs.lemmas.List.Sums.{sum_by-cons}
use mathlib.Core.Option.{some, some-injective, some-ne-none}
use lib.ListN.{get_elem?}
use Rattle.atomic_table.specs.Table.{State, opening, Splits, Joins}
use Rattle.atomic_table.proofs.Lists.{at_longer, at_set, set_else}
use Rattle.wf_desk.specs.declared.event.Event.{Event}
use Rattle.wf_desk.specs.declared.view.Stage.TheVariants.{Idle}
use Rattle.wf_desk.specs.declared.view.Hand.{Hand}
use Rattle.wf_desk.specs.declared.view.View.{View}
use Rattle.wf_desk.specs.declared.view.Home.{Home}
use Rattle.wf_desk.specs.declared.view.Key.{Key}
use Rattle.wf_desk.specs.Rule.{ticket_count, IsHand, weight, Knows, Slot, Kept}
use Rattle.wf_desk.specs.Plays.{tail_of, head_of, stamped, starting, dealt, pass_of, note_of, blank, noting, gathering}
use Rattle.wf_desk.proofs.Logs.{queue_set, queue_snoc, in_either, at_mapped, weights_set, weights_snoc}
use Rattle.wf_desk.proofs.StepsWithoutEvent.{not_has, none_before, seats_stay}

module _ {O C R E : Type 0} (after : O → ℕ → C → R → O) (may : O → ℕ → C → R → Type 0) (entry : ℕ → R → E) (key : Key O) where
  abbrev V : Type 0
  V = View O C R

  abbrev S : Type 0
  S = Slot O E

  abbrev Log : Type 0
  Log = List (Event C R)

  abbrev Rule : State S V → Type 0
  Rule = Kept after may entry key

  key_or : Key O → Option (Key O) → Key O
  key_or d (Some k) = k
  key_or d None = d

  at_end : (l : List V) (a b : V) (j : ℕ) → get_elem? (l ++ a ∷ []) j ≡ some b → (get_elem? l j ≡ some b) ⊎ ((j ≡ length l) × (a ≡ b))
  at_end [] a b zero e = inr (refl, some-injective a b e)
  at_end [] a b (suc j) e = absurd (some-ne-none b (sym e))
  at_end (x ∷ xs) a b zero e = inl e
  at_end (x ∷ xs) a b (suc j) e = ⊎_elim inl (λ t. inr (ap suc t.0, t.1)) (at_end xs a b j e)

  below : (l : List V) (i : ℕ) (a : V) → get_elem? l i ≡ some a → i < length l
  below [] i a e = absurd (some-ne-none a (sym e))
  below (x ∷ xs) zero a e = omega arith
  below (x ∷ xs) (suc i) a e = let h = below xs i a e in omega arith

  -- a seat is cut in two
  cuts : (s : State S V) (r : Rule s) (id : ℕ) (v : V) → get_elem? s.views id ≡ some v → v.stage ≡ Idle → (l x : V) → l.stage ≡ Idle
      → x.stage ≡ Idle → weight l + weight x ≡ weight v → (seat' : ℕ → ℕ) (next' : ℕ) → r.next ≤ next' → next' ≤ length key.quotas.items
      → Knows key r.drawn r.spent r.drawer r.history seat' next' id l
      → Knows key r.drawn r.spent r.drawer r.history seat' next' (length s.views) x
      → ((j : ℕ) (u : V) → j ≢ id → get_elem? s.views j ≡ some u → Knows key r.drawn r.spent r.drawer r.history seat' next' j u)
      → Rule record { words = s.words; homes = s.homes; views = set s.views id l ++ x ∷ [] }
  cuts s r id v at idle l x rest_l rest_x same seat' next' more upto left right others = record {
    history = r.history;
    drawn = r.drawn;
    spent = r.spent;
    drawer = r.drawer;
    seats = seat';
    next = next';
    words = r.words;
    order = r.order;
    line = let q = queue_set s.views id v l at in let g = queue_snoc (set s.views id l) x in let e = r.line in
        let a : ticket_count v.stage ≡ 0 = ap ticket_count idle in let b : ticket_count l.stage ≡ 0 = ap ticket_count rest_l in
        let d : ticket_count x.stage ≡ 0 = ap ticket_count rest_x in omega arith;
    small = r.small;
    bound = r.bound;
    count = upto;
    legal = r.legal;
    room = let h = weights_set s.views id v l at in let g = weights_snoc (set s.views id l) x in let room = r.room in omega arith;
    unborn = λ c le. r.unborn c (le_trans more le);
    each = λ j u e. ⊎_elim (λ was. seats_stay (Knows key r.drawn r.spent r.drawer r.history seat' next') s.views id l left others j u was)
        (λ t. subst
        (λ (z : ℕ × V). Knows key r.drawn r.spent r.drawer r.history seat' next' z.0 z.1)
        (λ i. (sym (t.0 ∙ length-set s.views id l) i, t.1 i)) right)
        (at_end (set s.views id l) x u j e);
    home = λ free. r.home (none_before s.views id v l at (not_has v.stage idle)
        (λ j u e. free j u (at_longer (set s.views id l) (x ∷ []) j u e)));
  }

  pub notes : (id : ℕ) (v : V) → v.stage ≡ Idle → Splits Rule id v v (note_of v)
  notes id v idle s r at = let k = r.each id v at in
      cuts s r id v at idle v (note_of v) idle refl (omega arith) r.seats r.next (le_refl r.next) r.count k
      record {
        key_is = λ q e. absurd (none-some q e);
        stands = tt;
        seen = k.seen;
        told = (r.history, refl);
        hands = λ i h e. absurd (some-ne-none h (sym e));
        holder = λ h. absurd h;
        root = λ e. absurd (false≢true e);
      }
      (λ j u other e. r.each j u e)

  -- the next client's number is dealt out
  deal_seat : ℕ → ℕ → (ℕ → ℕ) → ℕ → ℕ
  deal_seat next j seat c = cond (eqb c next) j (seat c)

  dealt_hand : (log : Log) (seat : ℕ → ℕ) (next new j : ℕ) (h : Hand C R) → IsHand log seat next j h
      → IsHand log (deal_seat next new seat) (next + 1) j h
  unfolding deal_seat
  dealt_hand log seat next new j h k = let lt = k.2 in
      (k.0, ap (λ b. cond b new (seat h.client)) (ne_eqb h.client next (λ e. omega arith)) ∙ k.1, omega arith, k.3)

  split_weight : (qs : List ℕ) → sum (tail_of qs) + head_of qs ≡ sum qs
  split_weight [] = refl
  split_weight (q ∷ qs) = let h = sum_by-cons (λ x. x) q qs in let h2 : sum (q ∷ qs) ≡ q + sum qs = h in omega arith

  pub deals : (id : ℕ) (v : V) (q : ℕ) (qs : List ℕ) → v.stage ≡ Idle → v.root ≡ true → v.quotas ≡ q ∷ qs
      → Splits Rule id v (dealt v) (pass_of v)
  unfolding deal_seat
  deals id v q qs idle root more s r at = let k = r.each id v at in let new : ℕ = length s.views in let seat : ℕ
      → ℕ = deal_seat r.next new r.seats in let here = k.root root in let longer : length v.quotas ≡ suc (length qs) = ap length more in
      let shorter : length (tail_of v.quotas) ≡ length qs = ap (λ l. length (tail_of l)) more in
      cuts s r id v at idle (dealt v) (pass_of v) idle refl (let h = split_weight v.quotas in
      omega arith) seat (r.next + 1) (omega arith) (let a = here.1 in let b = here.2 in omega arith)
      record {
        key_is = k.key_is;
        stands = k.stands;
        seen = k.seen;
        told = k.told;
        hands = λ i h e. dealt_hand r.history r.seats r.next new id h (k.hands i h e);
        holder = k.holder;
        root = λ _. (here.0, ap (λ n. n + 1) here.1, (let b = here.2 in omega arith));
      }
      record {
        key_is = k.key_is;
        stands = tt;
        seen = (r.history, refl);
        told = (r.history, refl);
        hands = λ i h e. subst (IsHand r.history seat (r.next + 1) new) (first (pass_of v) i h e) (
          sym (r.unborn v.next (le_of_eq (sym here.1))),
          ap (λ b. cond b new (r.seats v.next)) (eq-eqb v.next r.next here.1),
          (let q = here.1 in omega arith),
          (r.history, refl),
        );
        holder = λ h. absurd h;
        root = λ e. absurd (false≢true e);
      }
      (λ j u other e. let q = r.each j u e in record {
        key_is = q.key_is;
        stands = q.stands;
        seen = q.seen;
        told = q.told;
        hands = λ i h f. dealt_hand r.history r.seats r.next new j h (q.hands i h f);
        holder = q.holder;
        root = λ f. absurd (other ((q.root f).0 ∙ sym here.0));
      })
    where
      first : (p : V) (i : ℕ) (h : Hand C R) → get_elem? (pass_of v).hands i ≡ some h → record { client = v.next; mine = []; seen = [] } ≡ h
      first p zero h e = some-injective _ h e
      first p (suc i) h e = absurd (some-ne-none h (sym e))

  -- a seat takes in another, with the other's clients
  join_seat : ℕ → ℕ → (ℕ → ℕ) → ℕ → ℕ
  join_seat id other seat c = cond (eqb (seat c) other) id (seat c)

  kept_hand : (log : Log) (seat : ℕ → ℕ) (next id other j : ℕ) (h : Hand C R) → j ≢ other → IsHand log seat next j h
      → IsHand log (join_seat id other seat) next j h
  unfolding join_seat
  kept_hand log seat next id other j h apart k = (
    k.0,
    ap (λ b. cond b id (seat h.client)) (ne_eqb (seat h.client) other (λ e. apart (sym k.1 ∙ e))) ∙ k.1,
    k.2,
    k.3,
  )

  moved_hand : (log : Log) (seat : ℕ → ℕ) (next id other : ℕ) (h : Hand C R) → IsHand log seat next other h
      → IsHand log (join_seat id other seat) next id h
  unfolding join_seat
  moved_hand log seat next id other h k = (k.0, ap (λ b. cond b id (seat h.client)) (eq-eqb (seat h.client) other k.1), k.2, k.3)

  glues : (s : State S V) (r : Rule s) (id : ℕ) (v : V) → get_elem? s.views id ≡ some v → v.stage ≡ Idle → (other : ℕ) (w both : V)
      → ¬ (other ≡ id) → get_elem? (set s.views id both) other ≡ some w → w.stage ≡ Idle
      → weight both ≤ weight v + weight w → both.stage ≡ Idle
      → Knows key r.drawn r.spent r.drawer r.history (join_seat id other r.seats) r.next id both
      → Rule record { words = s.words; homes = s.homes; views = set (set s.views id both) other blank }
  glues s r id v at idle other w both apart there rest light still mine = let seat : ℕ → ℕ = join_seat id other r.seats in
      let K = Knows key r.drawn r.spent r.drawer r.history seat r.next in record {
        history = r.history;
        drawn = r.drawn;
        spent = r.spent;
        drawer = r.drawer;
        seats = seat;
        next = r.next;
        words = r.words;
        order = r.order;
        line = let a = queue_set s.views id v both at in let b = queue_set (set s.views id both) other w blank there in let e = r.line in
            let x : ticket_count v.stage ≡ 0 = ap ticket_count idle in let y : ticket_count both.stage ≡ 0 = ap ticket_count still in
            let z : ticket_count w.stage ≡ 0 = ap ticket_count rest in omega arith;
        small = r.small;
        bound = r.bound;
        count = r.count;
        legal = r.legal;
        room = let a = weights_set s.views id v both at in let b = weights_set (set s.views id both) other w blank there in
            let room = r.room in omega arith;
        unborn = r.unborn;
        each = seats_stay K (set s.views id both) other blank
            record {
              key_is = λ q e. absurd (none-some q e);
              stands = tt;
              seen = (r.history, refl);
              told = (r.history, refl);
              hands = λ i h e. absurd (some-ne-none h (sym e));
              holder = λ h. absurd h;
              root = λ e. absurd (false≢true e);
            }
            (λ j u not_other e. ⊎_elim (λ (t : (j ≡ id) × (both ≡ u)). subst (λ (z : ℕ × V). K z.0 z.1) (λ i. (sym t.0 i, t.1 i)) mine)
            (λ t. let q = r.each j u t.1 in
            record {
              key_is = q.key_is;
              stands = q.stands;
              seen = q.seen;
              told = q.told;
              hands = λ i h f. kept_hand r.history r.seats r.next id other j h not_other (q.hands i h f);
              holder = q.holder;
              root = q.root;
            })
            (at_set s.views id j both u e));
        home = λ free. r.home (none_before s.views id v both at (not_has v.stage idle)
            (none_before (set s.views id both) other w blank there (not_has w.stage rest) free));
      }

  pub tells : (id : ℕ) (v : V) (other : ℕ) (w : V) → v.stage ≡ Idle → w.stage ≡ Idle → w.hands ≡ []
      → Joins Rule id v other w (noting v w) blank
  tells id v other w idle rest none_ s r at apart there = let k = r.each id v at in
      let q = r.each other w (sym (set_else s.views id other (noting v w) apart) ∙ there) in
      glues s r id v at idle other w (noting v w) apart there rest (omega arith) idle
      record {
        key_is = k.key_is;
        stands = k.stands;
        seen = k.seen;
        told = q.seen;
        hands = λ i h e. kept_hand r.history r.seats r.next id other id h (λ e'. apart (sym e')) (k.hands i h e);
        holder = k.holder;
        root = k.root;
      }

  abbrev stamp : Log → Hand C R → Hand C R
  stamp seen h = record { client = h.client; mine = h.mine; seen = seen }

  pub gathers : (id : ℕ) (v : V) (other : ℕ) (w : V) → v.stage ≡ Idle → w.stage ≡ Idle → Joins Rule id v other w (gathering v w) blank
  gathers id v other w idle rest s r at apart there = let k = r.each id v at in
      let q = r.each other w (sym (set_else s.views id other (gathering v w) apart) ∙ there) in
      glues s r id v at idle other w (gathering v w) apart there rest (omega arith) idle
      record {
        key_is = k.key_is;
        stands = k.stands;
        seen = k.seen;
        told = k.told;
        hands = λ i h e. ⊎_elim (λ was. kept_hand r.history r.seats r.next id other id h (λ e'. apart (sym e')) (k.hands i h was))
            (λ (t : (j : ℕ) × (get_elem? (stamped w.seen w.hands) j ≡ some h)). let m = at_mapped (stamp w.seen) w.hands t.0 h t.1 in
            subst (IsHand r.history (join_seat id other r.seats) r.next id) m.2
            (let f = moved_hand r.history r.seats r.next id other m.0 (q.hands t.0 m.0 m.1) in (f.0, f.1, f.2, q.seen)))
            (in_either v.hands (stamped w.seen w.hands) i h e);
        holder = λ h. absurd (not_has v.stage idle h);
        root = k.root;
      }

  pub opens : (h : Home O E) → h.object ≡ key.opening.value → h.journal.items ≡ [] → sum key.quotas.items ≤ vec_capacity h.journal
      → sum key.quotas.items < 4294967296
      → Rule (opening (0 ∷ 0 ∷ 0 ∷ []) (Some h ∷ []) (starting key))
  unfolding key_or
  opens h object empty room small = record {
    history = [];
    drawn = 0;
    spent = 0;
    drawer = λ n. n;
    seats = λ n. n;
    next = 0;
    words = refl;
    order = omega arith;
    line = refl;
    small = omega arith;
    bound = small;
    count = omega arith;
    legal = tt;
    room = omega arith;
    unborn = λ c le. refl;
    each = λ j w e. first j w e;
    home = λ _. (h, refl, (object, empty, room));
  }
    where
      first : (j : ℕ) (w : V) → get_elem? (starting key ∷ []) j ≡ some w → Knows key 0 0 (λ n. n) [] (λ n. n) 0 j w
      first zero w e = subst (Knows key 0 0 (λ n. n) [] (λ n. n) 0 0) (some-injective (starting key) w e)
          record {
            key_is = λ k f. ap (key_or key) (sym f);
            stands = tt;
            seen = ([], refl);
            told = ([], refl);
            hands = λ i g f. absurd (some-ne-none g (sym f));
            holder = λ x. absurd x;
            root = λ _. (refl, refl, omega arith);
          }
      first (suc j) w e = absurd (some-ne-none w (sym e))

  pub opens_with : (before slots : List S) (h : Home O E) → before ≡ [] → slots ≡ before ++ Some h ∷ [] → h.object ≡ key.opening.value
      → h.journal.items ≡ [] → sum key.quotas.items ≤ vec_capacity h.journal → sum key.quotas.items < 4294967296
      → Rule (opening (0 ∷ 0 ∷ 0 ∷ []) slots (starting key))
  opens_with before slots h none_ is object empty room small =
      subst (λ l. Rule (opening (0 ∷ 0 ∷ 0 ∷ []) l (starting key))) (sym (is ∙ ap (λ l. l ++ Some h ∷ []) none_))
      (opens h object empty room small)
