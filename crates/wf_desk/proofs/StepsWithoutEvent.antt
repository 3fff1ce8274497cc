-- A step after which the history is the same.
use Rattle.std.proofs.Common.{◌≡◌, ◌≢◌, ℕ, ◌+◌, ◌<◌, ◌≤◌, List, [], ◌∷◌, length, get_or, set, sym, refl, ap, ◌∙◌, subst, ⊎_elim, arith}
use Rattle.std.proofs.Common.{Some}
use mathlib.Core.Logic.{dite}
use mathlib.Core.Option.{some, some-injective}
use native.Mathlib.Decide.{ℕ_discrete}
use lib.ListN.{get_elem?}
use Rattle.atomic_table.specs.Table.{State}
use Rattle.atomic_table.proofs.Lists.{at_set, set_else}
use Rattle.wf_desk.specs.declared.event.Event.{Event}
use Rattle.wf_desk.specs.declared.view.Stage.{Stage}
use Rattle.wf_desk.specs.declared.view.Stage.TheVariants.{Idle}
use Rattle.wf_desk.specs.declared.view.View.{View}
use Rattle.wf_desk.specs.declared.view.Home.{Home}
use Rattle.wf_desk.specs.declared.view.Key.{Key}
use Rattle.wf_desk.specs.Rule.{ticket_count, HasObject, Stands, weight, Knows, NoneHas, Slot, Fits, Kept}
use Rattle.wf_desk.proofs.Logs.{queue_set, weights_set}

-- a seat that is idle has not the object
pub not_has : (stage : Stage) → stage ≡ Idle → HasObject stage → ⊥
not_has stage idle has = subst HasObject idle has

module _ {O C R : Type 0} where
  -- what holds of the seat that changed and of each other seat holds of all seats
  pub seats_stay : (K : ℕ → View O C R → Type 0) (vs : List (View O C R)) (me : ℕ) (w : View O C R) → K me w
      → ((j : ℕ) (u : View O C R) → j ≢ me → get_elem? vs j ≡ some u → K j u)
      → (j : ℕ) (u : View O C R) → get_elem? (set vs me w) j ≡ some u → K j u
  seats_stay K vs me w mine others j u e =
      ⊎_elim (λ (t : (j ≡ me) × (w ≡ u)). subst (λ (x : ℕ × View O C R). K x.0 x.1) (λ i. (sym t.0 i, t.1 i)) mine)
      (λ t. others j u t.0 t.1) (at_set vs me j w u e)

  -- none has the object now, so none had it before, where the seat that changed did not
  pub none_before : (vs : List (View O C R)) (me : ℕ) (v w : View O C R) → get_elem? vs me ≡ some v → (HasObject v.stage → ⊥)
      → NoneHas (set vs me w) → NoneHas vs
  none_before vs me v w at not free j u e has = dite (ℕ_discrete j me)
      (λ same. not (subst (λ x. HasObject x.stage) (some-injective u v (sym e ∙ (ap (get_elem? vs) same ∙ at))) has))
      (λ other. free j u (set_else vs me j w other ∙ e) has)

module _ {O C R E : Type 0} (after : O → ℕ → C → R → O) (may : O → ℕ → C → R → Type 0) (entry : ℕ → R → E) (key : Key O) where
  abbrev V : Type 0
  V = View O C R

  abbrev S : Type 0
  S = Slot O E

  abbrev St : Type 0
  St = State S V

  abbrev Rule : St → Type 0
  Rule = Kept after may entry key

  -- what another seat knows, where the history stays
  stays : (drawn spent drawn' spent' : ℕ) (drawer drawer' : ℕ → ℕ) (history : List (Event C R)) (seats : ℕ → ℕ) (next j : ℕ) (w : V)
      → Stands drawn' spent' drawer' history j w.seen w.stage → Knows key drawn spent drawer history seats next j w
      → Knows key drawn' spent' drawer' history seats next j w
  stays drawn spent drawn' spent' drawer drawer' history seats next j w st k =
      record { key_is = k.key_is; stands = st; seen = k.seen; told = k.told; hands = k.hands; holder = k.holder; root = k.root }

  -- a step after which the history is the same: what is left to show of the words, of the seat, of the others, and of the slot
  pub moves : (s : St) (r : Rule s) (id : ℕ) (v : V) → get_elem? s.views id ≡ some v → (w : V) → weight w ≡ weight v
      → (ws : List ℕ) (hs : List (mathlib.Core.Option.Option S)) (drawn spent : ℕ) (drawer : ℕ → ℕ)
      → ws ≡ length r.history ∷ drawn ∷ spent ∷ [] → spent ≤ drawn
      → spent + ticket_count w.stage + r.drawn ≡ r.spent + ticket_count v.stage + drawn → drawn < 18446744073709551616
      → Knows key drawn spent drawer r.history r.seats r.next id w
      → ((j : ℕ) (u : V) → j ≢ id → get_elem? s.views j ≡ some u
      → Stands r.drawn r.spent r.drawer r.history j u.seen u.stage → Stands drawn spent drawer r.history j u.seen u.stage)
      → (NoneHas (set s.views id w) → (h : Home O E) × (get_elem? hs 0 ≡ some (some (Some h))) × Fits after entry key r.history h)
      → Rule record { words = ws; homes = hs; views = set s.views id w }
  moves s r id v at w same ws hs drawn spent drawer words order balance small mine others home = record {
    history = r.history;
    drawn = drawn;
    spent = spent;
    drawer = drawer;
    seats = r.seats;
    next = r.next;
    words = words;
    order = order;
    line = let h = queue_set s.views id v w at in let l = r.line in omega arith;
    small = small;
    bound = r.bound;
    count = r.count;
    legal = r.legal;
    room = let h = weights_set s.views id v w at in let room = r.room in omega arith;
    unborn = r.unborn;
    each = seats_stay (Knows key drawn spent drawer r.history r.seats r.next) s.views id w mine
        (λ j u other e. let k = r.each j u e in
        stays r.drawn r.spent drawn spent r.drawer drawer r.history r.seats r.next j u (others j u other e k.stands) k);
    home = home;
  }

  -- a step that changes nothing
  pub unmoved : (s : St) (r : Rule s) (id : ℕ) (v : V) → get_elem? s.views id ≡ some v → (HasObject v.stage → ⊥) → (i : ℕ)
      → set (length r.history ∷ r.drawn ∷ r.spent ∷ []) i (get_or (length r.history ∷ r.drawn ∷ r.spent ∷ []) i 0) ≡ length r.history
      ∷ r.drawn ∷ r.spent ∷ []
      → Rule record { words = set s.words i (get_or s.words i 0); homes = s.homes; views = set s.views id v }
  unmoved s r id v at not i same =
      moves s r id v at v refl (set s.words i (get_or s.words i 0)) s.homes r.drawn r.spent r.drawer
      (ap (λ ws. set ws i (get_or ws i 0)) r.words ∙ same) r.order (omega arith) r.small (r.each id v at)
      (λ j u other e k. k) (λ free. r.home (none_before s.views id v v at not free))
