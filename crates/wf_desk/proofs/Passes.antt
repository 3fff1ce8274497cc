-- A pass when it is new, after an event, after it was told, and when it shows what it has seen.
use Rattle.std.proofs.Common.{◌≡◌, ℕ, ◌-◌, ◌<◌, List, [], ◌∷◌, ◌++◌, length, refl, sym, ap, ◌∙◌, subst, arith, Option, Some, None}
use Rattle.std.proofs.lemmas.Option.{none-some}
use lib.ListN.{get_elem?}
use Rattle.atomic_table.specs.declared.shared.Seat.{Seat}
use Rattle.wf_desk.specs.declared.event.Event.{Event}
use Rattle.wf_desk.specs.declared.view.View.{View}
use Rattle.wf_desk.specs.declared.view.Key.{Key}
use Rattle.wf_desk.specs.History.{IsLegal, IsPrefix, IsLastAt, events_of, replay, event}
use Rattle.wf_desk.specs.Pass.{IsOwn, Made}
use Rattle.wf_desk.specs.Rule.{Slot}
use Rattle.wf_desk.specs.Plays.{Makes, at_stage, with_event, AllMine, pass_of, head_of, noting}
use Rattle.wf_desk.specs.Inside.{opening_of, known, Sits}
use Rattle.wf_desk.proofs.Logs.{events_of-own, last_here, last_stays}

module _ {O : Type 0} where
  some_or : O → Option O → O
  some_or d (Some x) = x
  some_or d None = d

  some_same : (a b : O) → Some a ≡ Some b → a ≡ b
  unfolding some_or
  some_same a b e = ap (some_or a) e

  -- what holds of the key that a seat knows holds of the opening object
  pub of_opening : (P : O → Type 0) (q : Option (Key O)) → ((k : Key O) → q ≡ Some k → P k.opening.value) → (o : O) → opening_of q ≡ Some o
      → P o
  of_opening P None h o e = absurd (none-some o e)
  of_opening P (Some k) h o e = subst P (some_same k.opening.value o e) (h k refl)

module _ {O C R E : Type 0} (after : O → ℕ → C → R → O) (may : O → ℕ → C → R → Type 0) where
  -- what the one hand of a pass's seat says of a history that has all the client's events
  all_mine : (seat : Seat (Slot O E) (View O C R)) (client left place : ℕ) → Sits after may seat client left place
      → (history : List (Event C R))
      → AllMine history seat.me.0.hands → events_of client history ≡ events_of client seat.me.0.seen
  all_mine seat client left place s history all =
      let d = s.hand in let here = all 0 d.0 (ap (λ l. get_elem? l 0) d.1) in
      ap (λ c. events_of c history) (sym d.2) ∙ (sym here ∙ d.3)

  module _ (Holds : O → Type 0) (seat seat' : Seat (Slot O E) (View O C R)) (client left place at : ℕ) (call : C) (reply : R)
      (s : Sits after may seat client left place) (m : Makes after may Holds seat.me.0 client call reply at seat'.me) where
    one_more : events_of client seat'.me.0.seen ≡ events_of client seat.me.0.seen ++ event client call reply ∷ []
    one_more =
        ap (λ y. events_of client y.0.seen) m.is
        ∙ (events_of-own client m.before (event client call reply) refl
        ∙ ap (λ l. l ++ event client call reply ∷ []) (all_mine seat client left place s m.before m.mine))

    -- after its event a pass is a pass
    pub sits_after : Sits after may seat' client (left - 1) at
    sits_after = let d = s.hand in record {
      key = (s.key.0, ap (λ y. y.0.key) m.is ∙ s.key.1);
      idle = ap (λ y. y.0.stage) m.is;
      free = ap (λ y. y.1) m.is;
      hand = (
        _,
        ap (λ y. y.0.hands) m.is ∙ ap (with_event (event client call reply)) d.1,
        d.2,
        ap (λ l. l ++ event client call reply ∷ []) d.3 ∙ sym one_more,
      );
      left_is = ap (λ y. y.0.left) m.is ∙ ap (λ n. n - 1) s.left_is;
      plain = ap (λ y. y.0.root) m.is ∙ s.plain;
      legal = λ o f. of_opening (λ x. IsLegal after may x seat'.me.0.seen) seat.me.0.key
          (λ k named. subst (λ y. IsLegal after may k.opening.value y.0.seen) (sym m.is) (m.legal k named))
          o (sym (ap (λ y. opening_of y.0.key) m.is) ∙ f);
      last = λ _. subst (λ (z : List (Event C R) × ℕ). IsLastAt client z.0 z.1)
          (λ i. (ap (λ y. y.0.seen) (sym m.is) i, sym m.at_is i))
          (last_here client m.before (event client call reply) refl);
    }

    -- the pass saw its event
    pub made_after : 0 < left → seat'.table_id ≡ seat.table_id
        → Made after may Holds (known seat client left place) call reply (known seat' client (left - 1) at)
    made_after some_left same_table = record {
      desk = same_table;
      client = refl;
      opening = ap (λ y. opening_of y.0.key) m.is;
      left = omega arith;
      mine = one_more;
      before = m.before;
      goes_on = m.goes_on;
      seen = ap (λ y. y.0.seen) m.is;
      place = m.at_is;
      holds = of_opening (λ o. Holds (replay after o m.before)) seat.me.0.key m.holds;
      allowed = of_opening (λ o. may (replay after o m.before) client call reply) seat.me.0.key m.allowed;
    }

  -- a pass that was told of more of the history
  pub sits_told : (seat seat' : Seat (Slot O E) (View O C R)) (client left place : ℕ) → Sits after may seat client left place
      → (w : View O C R) (history : List (Event C R))
      → seat'.me ≡ (at_stage (noting seat.me.0 w) seat.me.0.stage history, []) → IsPrefix seat.me.0.seen history
      → AllMine history seat.me.0.hands
      → ((k : Key O) → seat.me.0.key ≡ Some k → IsLegal after may k.opening.value history) → Sits after may seat' client left place
  sits_told seat seat' client left place s w history is longer all legal =
      subst (λ m. Sits after may record {
        marker = seat'.marker;
        table_id = seat'.table_id;
        id = seat'.id;
        me = m;
      } client left place) (sym is)
      (let d = s.hand in let same = all_mine seat client left place s history all in
      record {
        key = s.key;
        idle = s.idle;
        free = refl;
        hand = (d.0, d.1, d.2, d.3 ∙ sym same);
        left_is = s.left_is;
        plain = s.plain;
        legal = of_opening (λ x. IsLegal after may x history) seat.me.0.key legal;
        last = λ some. last_stays client seat.me.0.seen history place longer same
            (s.last (subst (λ l. 0 < length l) same some));
      })

  -- all but what it has seen stays with such a pass
  pub known_told : (seat seat' : Seat (Slot O E) (View O C R)) (client left place : ℕ) → Sits after may seat client left place
      → seat'.me.0.key ≡ seat.me.0.key → seat'.table_id ≡ seat.table_id → AllMine seat'.me.0.seen seat.me.0.hands
      → known seat' client left place ≡ record (known seat client left place) { seen = seat'.me.0.seen }
  known_told seat seat' client left place s named table all = λ i. record {
    desk = table i;
    client = client;
    opening = opening_of (named i);
    left = left;
    seen = seat'.me.0.seen;
    mine = all_mine seat client left place s seat'.me.0.seen all i;
    place = place;
  }

  -- a pass whose seat stays
  pub sits_same : (seat seat' : Seat (Slot O E) (View O C R)) (client left place : ℕ) → Sits after may seat client left place
      → seat'.me ≡ seat.me → Sits after may seat' client left place
  sits_same seat seat' client left place s same =
      subst (λ m. Sits after may record {
        marker = seat'.marker;
        table_id = seat'.table_id;
        id = seat'.id;
        me = m;
      } client left place) (sym same)
      record {
        key = s.key;
        idle = s.idle;
        free = s.free;
        hand = s.hand;
        left_is = s.left_is;
        plain = s.plain;
        legal = s.legal;
        last = s.last;
      }

  -- a new pass
  pub sits_fresh : (seat : Seat (Slot O E) (View O C R)) (v : View O C R) (key : Key O) (client left : ℕ) → seat.me ≡ (pass_of v, [])
      → v.key ≡ Some key
      → v.next ≡ client → head_of v.quotas ≡ left → Sits after may seat client left 0
  sits_fresh seat v key client left is named next quota =
      subst (λ m. Sits after may record {
        marker = seat.marker;
        table_id = seat.table_id;
        id = seat.id;
        me = m;
      } client left 0) (sym is)
      record {
        key = (key, named);
        idle = refl;
        free = refl;
        hand = (record { client = v.next; mine = []; seen = [] }, refl, next, refl);
        left_is = quota;
        plain = refl;
        legal = λ o e. tt;
        last = λ some. absurd (omega arith);
      }

  -- what every pass keeps
  pub sits_own : (seat : Seat (Slot O E) (View O C R)) (client left place : ℕ) → Sits after may seat client left place
      → IsOwn after may (known seat client left place)
  sits_own seat client left place s = let k = s.key in let is = ap opening_of k.1 in
      record { object = k.0.opening.value; opening = is; legal = s.legal k.0.opening.value is; mine = refl; last = s.last }
