-- The steps on the word that is the history's length keep the rule: an event, and a look at the history so far.
use Rattle.std.proofs.Common.{◌≡◌, ℕ, ◌+◌, ◌%◌, ◌<◌, List, [], ◌∷◌, ◌++◌, length, get_or, set, sym, refl, ap, ◌∙◌, subst, arith, Some, zero}
use Rattle.std.proofs.Common.{suc}
use Rattle.std.proofs.lemmas.List.{append-nil}
use mathlib.Core.Option.{some, none, some-injective, some-ne-none}
use lib.ListN.{get_elem?}
use Rattle.atomic_table.specs.Table.{State, Me, step, keeps, Allows}
use Rattle.wf_desk.specs.declared.event.Event.{Event}
use Rattle.wf_desk.specs.declared.view.Stage.{Stage}
use Rattle.wf_desk.specs.declared.view.Stage.TheVariants.{Idle, Waits, Has}
use Rattle.wf_desk.specs.declared.view.Hand.{Hand}
use Rattle.wf_desk.specs.declared.view.View.{View}
use Rattle.wf_desk.specs.declared.view.Key.{Key}
use Rattle.wf_desk.specs.History.{replay, IsLegal}
use Rattle.wf_desk.specs.Rule.{HasObject, Stands, IsHand, Knows, Slot, Kept}
use Rattle.wf_desk.specs.Plays.{with_event, at_stage, grown, grew, caught}
use Rattle.wf_desk.proofs.Logs.{queue_set, set_at, weights_at, prefix_all, prefix_more, events_of-own, events_of-other, legal_snoc}
use Rattle.wf_desk.proofs.Logs.{weights_set, length_snoc}
use Rattle.wf_desk.proofs.StepsWithoutEvent.{not_has, none_before, moves, seats_stay}
use Rattle.wf_desk.proofs.Tickets.{one_has, holds_at}

-- where a seat that has not the object stands, another history does no harm
grown_stands : {A : Type 0} (drawn spent : ℕ) (drawer : ℕ → ℕ) (history history' seen : List A) (j : ℕ) (stage : Stage)
    → (HasObject stage → ⊥)
    → Stands drawn spent drawer history j seen stage → Stands drawn spent drawer history' j seen stage
grown_stands drawn spent drawer history history' seen j Idle not k = tt
grown_stands drawn spent drawer history history' seen j (Waits n) not k = k
grown_stands drawn spent drawer history history' seen j (Has n) not k = absurd (not tt)

module _ {O C R E : Type 0} (after : O → ℕ → C → R → O) (may : O → ℕ → C → R → Type 0) (entry : ℕ → R → E) (key : Key O) where
  abbrev V : Type 0
  V = View O C R

  abbrev S : Type 0
  S = Slot O E

  abbrev M : Type 0
  M = Me S V

  abbrev Log : Type 0
  Log = List (Event C R)

  abbrev Rule : State S V → Type 0
  Rule = Kept after may entry key

  module _ (id n : ℕ) (v : V) (has : v.stage ≡ Has n) where
    abbrev Grown : Event C R → Hand C R → Hand C R
    Grown e d = record { client = d.client; mine = d.mine ++ e ∷ []; seen = d.seen }

    -- the event of the seat that has the object
    grows : (slots : ℕ) (cs : List (ℕ × S)) (d : Hand C R) (e : Event C R) (q : Key O) → v.key ≡ Some q → v.hands ≡ d ∷ []
        → d.client ≡ e.client → 0 < v.left
        → may (replay after q.opening.value v.seen) e.client e.call e.reply
        → Allows Rule slots id (v, cs) 0 (λ x. (x + 1) % 18446744073709551616) (grew (e ∷ []) (step slots 0 1 0 none) (v, cs))
    grows slots cs d e q named one client left allowed s r wide at _ =
        let x : ℕ = get_or s.words 0 0 in let is : x ≡ length r.history = ap (λ ws. get_or ws 0 0) r.words in
        let k = r.each id v at in let st = holds_at after may entry key id n v has s r at in let bound = r.bound in let room = r.room in
        let log : Log = r.history ++ e ∷ [] in
        let own : r.drawer r.spent ≡ id = ap r.drawer (sym st.0) ∙ st.2 in let w : V = grown v e in
        let below = weights_at s.views id v at in
        let up : (x + 1) % 18446744073709551616 ≡ length log = let l = length_snoc r.history e in omega arith in
        let mine = k.hands 0 d (ap (λ l. get_elem? l 0) one) in (
          w,
          keeps,
          tt,
          record {
            history = log;
            drawn = r.drawn;
            spent = r.spent;
            drawer = r.drawer;
            seats = r.seats;
            next = r.next;
            words = ap (λ ws. set ws 0 ((x + 1) % 18446744073709551616)) r.words ∙ ap (λ y. y ∷ r.drawn ∷ r.spent ∷ []) up;
            order = r.order;
            line = let q = queue_set s.views id v w at in let l = r.line in omega arith;
            small = r.small;
            bound = bound;
            count = r.count;
            legal = legal_snoc after may key.opening.value r.history e r.legal
                (subst (λ (z : Key O × Log). may (replay after z.0.opening.value z.1) e.client e.call e.reply)
                (λ i. (k.key_is q named i, st.3 i)) allowed);
            room = let l = length_snoc r.history e in let q = weights_set s.views id v w at in omega arith;
            unborn = λ c le. let lt = mine.2 in events_of-other c r.history e (λ same. omega (arith, same, client)) ∙ r.unborn c le;
            each = seats_stay (Knows key r.drawn r.spent r.drawer log r.seats r.next) s.views id w
                record {
                  key_is = k.key_is;
                  stands = subst (Stands r.drawn r.spent r.drawer log id w.seen) (sym has) (
                    st.0,
                    st.1,
                    st.2,
                    ap (λ l. l ++ e ∷ []) st.3,
                  );
                  seen = ([], ap (λ l. l ++ e ∷ []) (sym st.3) ∙ sym (append-nil (v.seen ++ e ∷ [])));
                  told = prefix_more v.told r.history (e ∷ []) k.told;
                  hands = λ i g f. subst (IsHand log r.seats r.next id) (only e d one i g f) (
                    ap (λ l. l ++ e ∷ []) mine.0 ∙ sym (events_of-own d.client r.history e (sym client)),
                    mine.1,
                    mine.2,
                    prefix_more d.seen r.history (e ∷ []) mine.3,
                  );
                  holder = λ _. (_, ap (λ l. get_elem? (with_event e l) 0) one);
                  root = k.root;
                }
                (λ j u other f. let q = r.each j u f in record {
                  key_is = q.key_is;
                  stands = grown_stands r.drawn r.spent r.drawer r.history log u.seen j u.stage
                      (one_has r.drawn r.spent r.drawer r.history u.seen id j u.stage own other q.stands) q.stands;
                  seen = prefix_more u.seen r.history (e ∷ []) q.seen;
                  told = prefix_more u.told r.history (e ∷ []) q.told;
                  hands = λ i g p. let y = q.hands i g p in (
                    y.0 ∙ sym
                        (events_of-other g.client r.history e (λ same. other (sym y.1 ∙ (ap r.seats (sym same ∙ sym client) ∙ mine.1)))),
                    y.1,
                    y.2,
                    prefix_more g.seen r.history (e ∷ []) y.3,
                  );
                  holder = q.holder;
                  root = q.root;
                });
            home = λ free. absurd (free id w (set_at s.views id v w at) (subst HasObject (sym has) tt));
          },
          λ e' f. (
            is ∙ ap length (sym st.3),
            (let at_x = is in omega arith),
            ap (λ y. (grown v y, cs)) (some-injective e e' (ap (λ l. get_elem? l 0) f)),
          ),
        )
      where
        alone : (e : Event C R) (d : Hand C R) (i : ℕ) (g : Hand C R) → get_elem? (with_event e (d ∷ [])) i ≡ some g → Grown e d ≡ g
        alone e d zero g f = some-injective _ g f
        alone e d (suc i) g f = absurd (some-ne-none g (sym f))

        only : (e : Event C R) (d : Hand C R) → v.hands ≡ d ∷ [] → (i : ℕ) (g : Hand C R) → get_elem? (with_event e v.hands) i ≡ some g
            → Grown e d ≡ g
        only e d one i g f = alone e d i g (subst (λ l. get_elem? (with_event e l) i ≡ some g) one f)

  -- the same, for the event that the step announces
  pub records : (slots id n : ℕ) (me : M) (es : Log) (e : Event C R) (d : Hand C R) (q : Key O) → es ≡ e ∷ [] → me.0.key ≡ Some q
      → me.0.stage ≡ Has n
      → me.0.hands ≡ d ∷ [] → d.client ≡ e.client → 0 < me.0.left → may (replay after q.opening.value me.0.seen) e.client e.call e.reply
      → Allows Rule slots id me 0 (λ y. (y + 1) % 18446744073709551616) (grew es (step slots 0 1 0 none) me)
  records slots id n me es e d q is named has one client left allowed =
      subst (λ l. Allows Rule slots id me 0 (λ y. (y + 1) % 18446744073709551616) (grew l (step slots 0 1 0 none) me)) (sym is)
      (grows id n me.0 has slots me.1 d e q named one client left allowed)

  -- an idle seat looks at the history so far
  pub catches : (slots id : ℕ) (me : M) → me.0.stage ≡ Idle
      → Allows Rule slots id me 0 (λ x. x) (caught after may (step slots 0 0 0 none) me)
  catches slots id me idle s r wide at _ =
      let k = r.each id me.0 at in let w : V = at_stage me.0 me.0.stage r.history in let not = not_has me.0.stage idle in (
        w,
        keeps,
        tt,
        moves after may entry key s r id me.0 at w refl (set s.words 0 (get_or s.words 0 0)) s.homes r.drawn r.spent r.drawer
            (ap (λ ws. set ws 0 (get_or ws 0 0)) r.words) r.order (omega arith) r.small
            record {
              key_is = k.key_is;
              stands = subst (Stands r.drawn r.spent r.drawer r.history id r.history) (sym idle) tt;
              seen = prefix_all r.history;
              told = k.told;
              hands = k.hands;
              holder = k.holder;
              root = k.root;
            }
            (λ j u other e st. st) (λ free. r.home (none_before s.views id me.0 w at not free)),
        (
          r.history,
          refl,
          k.seen,
          k.told,
          (λ i h e. (k.hands i h e).0),
          λ y f. subst (λ z. IsLegal after may z.opening.value r.history) (sym (k.key_is y f)) r.legal,
        ),
      )
