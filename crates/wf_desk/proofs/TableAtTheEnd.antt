-- What the last state of a table shows.
use Rattle.std.proofs.Common.{◌≡◌, ℕ, List, length, sym, ap, ◌∙◌, subst, arith, Some, None, le_trans}
use mathlib.Core.Option.{some, some-injective}
use lib.ListN.{get_elem?}
use Rattle.std.proofs.lemmas.Option.{none-some}
use Rattle.atomic_table.specs.Table.{State, Final, Seen}
use Rattle.atomic_table.specs.Seated.{TableId}
use Rattle.wf_desk.specs.declared.view.Stage.TheVariants.{Idle}
use Rattle.wf_desk.specs.declared.view.Hand.{Hand}
use Rattle.wf_desk.specs.declared.view.View.{View}
use Rattle.wf_desk.specs.declared.view.Home.{Home}
use Rattle.wf_desk.specs.declared.view.Key.{Key}
use Rattle.wf_desk.specs.History.{IsPrefix, events_of}
use Rattle.wf_desk.specs.Pass.{Known}
use Rattle.wf_desk.specs.Desk.{AreAll, IsClosing}
use Rattle.wf_desk.specs.Rule.{HasObject, Slot, Kept, NoneHas}
use Rattle.wf_desk.specs.Ending.{AllOwn, Covers, Ends, hands_of}
use Rattle.wf_desk.proofs.OneHistoryOfAllPasses.{any_read, read_all, each_pass, whole}

module _ {O C R E : Type 0} (after : O → ℕ → C → R → O) (may : O → ℕ → C → R → Type 0) (entry : ℕ → R → E) (key : Key O) where
  -- all clients are with the seat id, which has not the object, so none has it
  none_out : (s : State (Slot O E) (View O C R)) (r : Kept after may entry key s) (id : ℕ) (v : View O C R) → get_elem? s.views id ≡ some v
      → v.stage ≡ Idle
      → Covers v.hands (length key.quotas.items) → NoneHas s.views
  none_out s r id v at idle all j u e has =
      let d = (r.each j u e).holder has in let of_j = (r.each j u e).hands 0 d.0 d.1 in let count = r.count in let lt = of_j.2 in
      let h = all d.0.client (omega arith) in let of_id = (r.each id v at).hands h.0 h.1 h.2 in
      let same : j ≡ id = sym of_j.1 ∙ (ap r.seats (sym h.3) ∙ of_id.1) in
      subst HasObject (ap (λ x. x.stage) (some-injective u v (sym e ∙ (ap (get_elem? s.views) same ∙ at))) ∙ idle) has

  -- the slot has an object, and that with its journal ends the history behind the seat's hands
  pub closes : (id : ℕ) (v : View O C R) (ws : List ℕ) (xs : List (Slot O E)) → Final (Seen (Kept after may entry key) id v) ws xs
      → v.stage ≡ Idle
      → Covers v.hands (length key.quotas.items)
      → (h : Home O E) × (get_elem? xs 0 ≡ some (Some h)) × Ends after may entry key v.hands h.object h.journal.items
  closes id v ws xs f idle all =
      let s = f.0 in let r : Kept after may entry key s = f.1.0 in let at = f.1.1 in let home = r.home (none_out s r id v at idle all) in (
        home.0,
        f.4 0 (Some home.0) home.1,
        record {
          history = r.history;
          legal = r.legal;
          object_is = home.2.0;
          journal_is = home.2.1;
          known = λ j h e. let k = (r.each id v at).hands j h e in (k.0, k.3);
          no_other = λ c le. r.unborn c (le_trans r.count le);
        },
      )

  home_or : Home O E → Slot O E → Home O E
  home_or d (Some h) = h
  home_or d None = d

  -- what is taken from the slot is that object
  pub taken : (hands : List (Hand C R)) (xs : List (Slot O E)) (h h' : Home O E) (x : Slot O E) → get_elem? xs 0 ≡ some (Some h)
      → get_elem? xs 0 ≡ some x → x ≡ Some h'
      → Ends after may entry key hands h.object h.journal.items → Ends after may entry key hands h'.object h'.journal.items
  unfolding home_or
  taken hands xs h h' x a b e ends =
      subst (λ y. Ends after may entry key hands y.object y.journal.items)
      (ap (home_or h) (some-injective (Some h) (Some h') (sym a ∙ (b ∙ ap some e)))) ends

  -- the slot is not empty
  pub not_empty : (xs : List (Slot O E)) (h : Home O E) (x : Slot O E) → get_elem? xs 0 ≡ some (Some h) → get_elem? xs 0 ≡ some x → x ≡ None
      → ⊥
  not_empty xs h x a b e = none-some h (some-injective None (Some h) (ap some (sym e) ∙ (sym b ∙ a)))

  -- what ends the history behind the hands of all passes closes the desk
  pub closing : (desk : TableId) (ks : List (Known O C R)) (object : O) (journal : List E) → AreAll desk (length key.quotas.items) ks
      → AllOwn ks
      → Ends after may entry key (hands_of ks) object journal
      → IsClosing after may entry record { id = desk; opening = key.opening.value; quotas = key.quotas.items } ks object journal
  closing desk ks object journal all own ends = let each = each_pass ks ends.history ends.known in record {
    history = ends.history;
    legal = ends.legal;
    begins = read_all (λ k. IsPrefix k.seen ends.history) ks (λ i k e. (each i k e).1);
    mine = read_all (λ k. k.mine ≡ events_of k.client ends.history) ks (λ i k e. (each i k e).0);
    no_other = ends.no_other;
    whole = whole ks ends.history (length key.quotas.items)
        (λ c lt. any_read (λ k. k.client ≡ c) ks (all.each c lt))
        (λ i k e. let p = each i k e in (p.1, sym (own i k e) ∙ p.0))
        ends.no_other;
    object_is = ends.object_is;
    journal_is = ends.journal_is;
  }
