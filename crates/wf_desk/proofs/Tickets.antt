-- The steps on the two words of tickets keep the rule: a ticket is drawn, the object is taken out, a ticket is spent.
use Rattle.std.proofs.Common.{◌≡◌, ◌≢◌, ℕ, ◌+◌, ◌%◌, ◌<◌, ◌≤◌, eqb, List, [], ◌∷◌, length, get_or, set, sum, sym, refl, ap, ◌∙◌}
use Rattle.std.proofs.Common.{subst, arith, Some, cond, eq-eqb, ne_eqb}
use mathlib.Core.Logic.{dite}
use mathlib.Core.Option.{some, none, some-injective}
use native.Mathlib.Decide.{ℕ_discrete}
use lib.ListN.{get_elem?}
use prog.Atomic.{either}
use Rattle.atomic_table.specs.Table.{State, Me, step, keeps, takes, gives, stepped, Allows}
use Rattle.atomic_table.proofs.Lists.{set_here}
use Rattle.wf_desk.specs.declared.event.Event.{Event}
use Rattle.wf_desk.specs.declared.view.Stage.{Stage}
use Rattle.wf_desk.specs.declared.view.Stage.TheVariants.{Idle, Waits, Has}
use Rattle.wf_desk.specs.declared.view.Hand.{Hand}
use Rattle.wf_desk.specs.declared.view.View.{View}
use Rattle.wf_desk.specs.declared.view.Home.{Home}
use Rattle.wf_desk.specs.declared.view.Key.{Key}
use Rattle.wf_desk.specs.History.{IsLegal}
use Rattle.wf_desk.specs.Rule.{ticket_count, HasObject, Stands, NoneHas, Slot, Fits, Kept}
use Rattle.wf_desk.specs.Plays.{IsTurn, at_stage, drew, rested, took}
use Rattle.wf_desk.proofs.Logs.{set_at, weights_at, prefix_all}
use Rattle.wf_desk.proofs.StepsWithoutEvent.{not_has, none_before, moves, unmoved}

module _ {A : Type 0} where
  -- where a seat stands when another has drawn a ticket
  drawn_stands : (drawn spent id old new : ℕ) (drawer : ℕ → ℕ) (history seen : List A) (j : ℕ) (stage : Stage) → drawn ≡ old → new ≡ old + 1
      → Stands drawn spent drawer history j seen stage → Stands new spent (λ n. cond (eqb n old) id (drawer n)) history j seen stage
  drawn_stands drawn spent id old new drawer history seen j Idle same up k = tt
  drawn_stands drawn spent id old new drawer history seen j (Waits n) same up k =
      let lt = k.1 in (k.0, omega arith, ap (λ b. cond b id (drawer n)) (ne_eqb n old (λ e. omega arith)) ∙ k.2)
  drawn_stands drawn spent id old new drawer history seen j (Has n) same up k =
      let lt = k.1 in (k.0, omega arith, ap (λ b. cond b id (drawer n)) (ne_eqb n old (λ e. omega arith)) ∙ k.2, k.3)

  -- no other seat than the one whose ticket is the next has the object
  pub one_has : (drawn spent : ℕ) (drawer : ℕ → ℕ) (history seen : List A) (id j : ℕ) (stage : Stage) → drawer spent ≡ id → j ≢ id
      → Stands drawn spent drawer history j seen stage → HasObject stage → ⊥
  one_has drawn spent drawer history seen id j Idle own other k h = h
  one_has drawn spent drawer history seen id j (Waits n) own other k h = h
  one_has drawn spent drawer history seen id j (Has n) own other k h = other (sym k.2 ∙ (ap drawer k.0 ∙ own))

  -- where a seat stands when another has spent its ticket
  spent_stands : (drawn spent id : ℕ) (drawer : ℕ → ℕ) (history seen : List A) (j : ℕ) (stage : Stage) → drawer spent ≡ id → j ≢ id
      → (HasObject stage → ⊥)
      → Stands drawn spent drawer history j seen stage → Stands drawn (spent + 1) drawer history j seen stage
  spent_stands drawn spent id drawer history seen j Idle own other not k = tt
  spent_stands drawn spent id drawer history seen j (Waits n) own other not k =
      let le = k.0 in let ne : n ≢ spent = λ e. other (sym k.2 ∙ (ap drawer e ∙ own)) in (omega arith, k.1, k.2)
  spent_stands drawn spent id drawer history seen j (Has n) own other not k = absurd (not tt)

module _ {O C R E : Type 0} (after : O → ℕ → C → R → O) (may : O → ℕ → C → R → Type 0) (entry : ℕ → R → E) (key : Key O) where
  abbrev V : Type 0
  V = View O C R

  abbrev S : Type 0
  S = Slot O E

  abbrev M : Type 0
  M = Me S V

  abbrev Log : Type 0
  Log = List (Event C R)

  abbrev Rule : State S V → Type 0
  Rule = Kept after may entry key

  -- a compare-exchange of the tickets drawn
  pub draws : (slots id : ℕ) (me : M) (old new : ℕ) → me.0.stage ≡ Idle → new ≡ old + 1 → new < 18446744073709551616
      → Allows Rule slots id me 1 (λ n. either (eqb n old) new n) (drew (step slots 1 old new none) me)
  draws slots id me old new idle up small s r wide at _ =
      let x : ℕ = get_or s.words 1 0 in let is : x ≡ r.drawn = ap (λ ws. get_or ws 1 0) r.words in let order = r.order in
      dite (ℕ_discrete x old)
      (λ hit. let w : V = at_stage me.0 (Waits old) me.0.seen in let k = r.each id me.0 at in
      let drawer : ℕ → ℕ = λ n. cond (eqb n old) id (r.drawer n) in (
        w,
        keeps,
        tt,
        subst (λ b. Rule (stepped s 1 (either b new x) id me.1 w keeps)) (sym (eq-eqb x old hit))
            (moves after may entry key s r id me.0 at w refl (set s.words 1 new) s.homes new r.spent drawer
            (ap (λ ws. set ws 1 new) r.words) (omega arith)
            (let none_ : ticket_count me.0.stage ≡ 0 = ap ticket_count idle in let b : r.drawn ≡ old = sym is ∙ hit in omega arith) small
            record {
              key_is = k.key_is;
              stands = (omega arith, omega arith, ap (λ b. cond b id (r.drawer old)) (eq-eqb old old refl));
              seen = k.seen;
              told = k.told;
              hands = k.hands;
              holder = λ h. absurd h;
              root = k.root;
            }
            (λ j u other e st. drawn_stands r.drawn r.spent id old new r.drawer r.history u.seen j u.stage (sym is ∙ hit) up st)
            (λ free. r.home (none_before s.views id me.0 w at (not_has me.0.stage idle) free))),
        ((λ _. refl), λ miss. absurd (miss hit)),
      ))
      (λ miss. (
        me.0,
        keeps,
        tt,
        subst (λ b. Rule (stepped s 1 (either b new x) id me.1 me.0 keeps)) (sym (ne_eqb x old miss))
            (unmoved after may entry key s r id me.0 at (not_has me.0.stage idle) 1 refl),
        ((λ hit. absurd (miss hit)), λ _. refl),
      ))

  -- where the ticket of a waiting seat is the next, none has the object
  none_has : (s : State S V) (r : Rule s) (id n : ℕ) (v : V) → get_elem? s.views id ≡ some v → v.stage ≡ Waits n → r.spent ≡ n
      → NoneHas s.views
  none_has s r id n v at is turn j u e has = go u.stage (r.each j u e).stands refl has
    where
      own : r.drawer n ≡ id
      own = (subst (Stands r.drawn r.spent r.drawer r.history id v.seen) is (r.each id v at).stands).2

      go : (stage : Stage) → Stands r.drawn r.spent r.drawer r.history j u.seen stage → u.stage ≡ stage → HasObject stage → ⊥
      go Idle k f h = h
      go (Waits m) k f h = h
      go (Has m) k f h =
          let same : j ≡ id = sym k.2 ∙ (ap r.drawer (k.0 ∙ turn) ∙ own) in
          subst HasObject (ap (λ x. x.stage) (some-injective u v (sym e ∙ (ap (get_elem? s.views) same ∙ at))) ∙ is)
          (subst HasObject (sym f) tt)

  -- a load of the tickets spent by a waiting seat, which takes the object out where its own is the next
  pub serves : (slots id : ℕ) (me : M) (n : ℕ) (d : Hand C R) → me.0.hands ≡ d ∷ [] → me.0.stage ≡ Waits n → me.1 ≡ []
      → Allows Rule slots id me 2 (λ x. x) (took after may entry (step slots 2 0 0 none) me)
  serves slots id me n d one waits empty s r wide at _ =
      let x : ℕ = get_or s.words 2 0 in let is : x ≡ r.spent = ap (λ ws. get_or ws 2 0) r.words in let k = r.each id me.0 at in
      let stands : Stands r.drawn r.spent r.drawer r.history id me.0.seen (Waits n) =
      subst (Stands r.drawn r.spent r.drawer r.history id me.0.seen) waits k.stands in
      let not : HasObject me.0.stage → ⊥ = λ h. subst HasObject waits h in
      dite (ℕ_discrete x n)
      (λ hit. let w : V = at_stage me.0 (Has x) r.history in let free = none_has s r id n me.0 at waits (sym is ∙ hit) in
      let home = r.home free in let below = stands.1 in let room = r.room in let part = weights_at s.views id me.0 at in (
        w,
        takes 0 (Some home.0),
        home.1,
        moves after may entry key s r id me.0 at w refl (set s.words 2 x) (set s.homes 0 none) r.drawn r.spent r.drawer
            (ap (λ ws. set ws 2 (get_or ws 2 0)) r.words) r.order
            (let one : ticket_count me.0.stage ≡ 1 = ap ticket_count waits in omega arith) r.small
            record {
              key_is = k.key_is;
              stands = (is, omega arith, ap r.drawer hit ∙ stands.2, refl);
              seen = prefix_all r.history;
              told = k.told;
              hands = k.hands;
              holder = λ _. (d, ap (λ l. get_elem? l 0) one);
              root = k.root;
            }
            (λ j u other e st. st) (λ none_. absurd (none_ id w (set_at s.views id me.0 w at) tt)),
        (
          (λ _ y f. (
            r.history,
            home.0,
            (λ i. (w, (0, Some home.0) ∷ empty i)),
            k.seen,
            (λ i h e. (k.hands i h e).0),
            (
              y,
              f,
              subst (λ z. Fits after entry z r.history home.0) (sym (k.key_is y f)) home.2,
              subst (λ z. IsLegal after may z.opening.value r.history) (sym (k.key_is y f)) r.legal,
              subst (λ z. length r.history + me.0.left ≤ sum z.quotas.items) (sym (k.key_is y f)) (omega arith),
            ),
          )),
          (λ no. absurd (no (subst (IsTurn x) (sym waits) hit))),
        ),
      ))
      (λ miss. (
        me.0,
        keeps,
        tt,
        unmoved after may entry key s r id me.0 at not 2 refl,
        ((λ turn. absurd (miss (subst (IsTurn x) waits turn))), λ _. refl),
      ))

  -- the seat that has the object has the next ticket, and has seen all
  pub holds_at : (id n : ℕ) (v : V) → v.stage ≡ Has n → (s : State S V) (r : Rule s) → get_elem? s.views id ≡ some v
      → (n ≡ r.spent) × (n < r.drawn) × (r.drawer n ≡ id) × (v.seen ≡ r.history)
  holds_at id n v has s r at = subst (Stands r.drawn r.spent r.drawer r.history id v.seen) has (r.each id v at).stands

  -- the seat that has the object spends its ticket and gives the slot home, with the object in it
  rests : (slots id n : ℕ) (v : V) (h : Home O E) (q : Key O) → v.stage ≡ Has n → slots ≡ 1 → v.key ≡ Some q → Fits after entry q v.seen h
      → Allows Rule slots id (v, (0, Some h) ∷ []) 2 (λ x. (x + 1) % 18446744073709551616)
      (rested (step slots 2 1 0 none) (v, (0, Some h) ∷ []))
  rests slots id n v h q has one_slot named fits s r wide at _ =
      let x : ℕ = get_or s.words 2 0 in let is : x ≡ r.spent = ap (λ ws. get_or ws 2 0) r.words in
      let k = r.each id v at in let st = holds_at id n v has s r at in
      let a = st.0 in let b = st.1 in let small = r.small in let own : r.drawer r.spent ≡ id = ap r.drawer (sym a) ∙ st.2 in
      let w : V = at_stage v Idle v.seen in let up : (x + 1) % 18446744073709551616 ≡ r.spent + 1 = omega arith in (
        w,
        gives,
        tt,
        moves after may entry key s r id v at w refl (set s.words 2 ((x + 1) % 18446744073709551616)) (set s.homes 0 (some (Some h)))
            r.drawn (r.spent + 1) r.drawer
            (ap (λ ws. set ws 2 ((x + 1) % 18446744073709551616)) r.words
            ∙ ap (λ y. length r.history ∷ r.drawn ∷ y ∷ []) up) (omega arith)
            (let one : ticket_count v.stage ≡ 1 = ap ticket_count has in omega arith) small
            record { key_is = k.key_is; stands = tt; seen = k.seen; told = k.told; hands = k.hands; holder = λ h. absurd h; root = k.root }
            (λ j u other e st'. spent_stands r.drawn r.spent id r.drawer r.history u.seen j u.stage own other
            (one_has r.drawn r.spent r.drawer r.history u.seen id j u.stage own other st') st')
            (λ _. (h, set_here s.homes 0 (some (Some h)) (omega arith), fits_key (k.key_is q named) r.history st.3)),
        refl,
      )
    where
      fits_key : q ≡ key → (l : Log) → v.seen ≡ l → Fits after entry key l h
      fits_key e l f = subst (λ (z : Key O × Log). Fits after entry z.0 z.1 h) (λ i. (e i, f i)) fits

  -- the same, for a seat of which it is known what it holds
  pub leaves : (slots id n : ℕ) (me : M) (h : Home O E) (q : Key O) → me.0.key ≡ Some q → slots ≡ 1 → me.0.stage ≡ Has n
      → me.1 ≡ (0, Some h) ∷ []
      → Fits after entry q me.0.seen h
      → Allows Rule slots id me 2 (λ x. (x + 1) % 18446744073709551616) (rested (step slots 2 1 0 none) me)
  leaves slots id n me h q named one has holds fits =
      subst (λ l. Allows Rule slots id (me.0, l) 2 (λ x. (x + 1) % 18446744073709551616)
      (rested (step slots 2 1 0 none) (me.0, l))) (sym holds)
      (rests slots id n me.0 h q has one named fits)
