-- From the object taken out to the object put back, one event later.
use Rattle.std.proofs.Common.{◌≡◌, ℕ, ◌+◌, ◌≤◌, ◌<◌, List, [], ◌∷◌, ◌++◌, length, sum, sym, ap, ◌∙◌, subst, Option, Some, None}
use Rattle.std.proofs.Common.{vec_capacity, arith}
use Rattle.std.proofs.lemmas.List.{map-append, length-map}
use Rattle.wf_desk.specs.declared.event.Event.{Event}
use Rattle.wf_desk.specs.declared.view.View.{View}
use Rattle.wf_desk.specs.declared.view.Home.{Home}
use Rattle.wf_desk.specs.declared.view.Key.{Key}
use Rattle.wf_desk.specs.History.{replay, IsLegal}
use Rattle.wf_desk.specs.Rule.{Slot, Fits}
use Rattle.wf_desk.specs.Plays.{grown, Finds}
use Rattle.wf_desk.proofs.Logs.{replay_snoc, legal_snoc}

module _ {O C R E : Type 0} (after : O → ℕ → C → R → O) (may : O → ℕ → C → R → Type 0) (entry : ℕ → R → E) where
  -- there is room in the journal for one entry more
  pub has_room : (key : Key O) (history : List (Event C R)) (h : Home O E) (left : ℕ) → Fits after entry key history h
      → length history + left ≤ sum key.quotas.items → 0 < left → length h.journal.items < vec_capacity h.journal
  has_room key history h left fits room some_left =
      let a : length h.journal.items ≡ length history = ap length fits.1 ∙ length-map history (λ e. entry e.client e.reply) in
      let b = fits.2 in omega arith

  -- what the object in hand may answer is what the replay of all events before may answer
  pub asked : (k : Key O) (v : View O C R) (h : Home O E) (e : Event C R) (call : C) → call ≡ e.call → Fits after entry k v.seen h
      → may h.object e.client e.call e.reply → may (replay after k.opening.value v.seen) e.client call e.reply
  asked k v h e call same fits allowed = subst (λ (o : O × C). may o.0 e.client o.1 e.reply) (λ i. (fits.0 i, sym same i)) allowed

  -- the object that was called, with its journal, fits the history with the event
  pub answered : (k : Key O) (v w : View O C R) (h h' : Home O E) (e : Event C R) → w ≡ grown v e → Fits after entry k v.seen h
      → h'.object ≡ after h.object e.client e.call e.reply → h'.journal.items ≡ h.journal.items ++ entry e.client e.reply ∷ []
      → vec_capacity h'.journal ≡ vec_capacity h.journal → Fits after entry k w.seen h'
  answered k v w h h' e is fits object items room =
      subst (λ z. Fits after entry k z.seen h') (sym is) (
        object ∙ (ap (λ o. after o e.client e.call e.reply) fits.0 ∙ sym (replay_snoc after may k.opening.value v.seen e)),
        items ∙ (ap (λ l. l ++ entry e.client e.reply ∷ []) fits.1
            ∙ sym (map-append (λ y. entry y.client y.reply) v.seen (e ∷ []))),
        (let b = fits.2 in let c = room in omega arith),
      )

  -- the history with the event is legal
  pub legal_after : (key : Key O) (before : List (Event C R)) (h : Home O E) (e : Event C R) → Fits after entry key before h
      → IsLegal after may key.opening.value before → may h.object e.client e.call e.reply
      → IsLegal after may key.opening.value (before ++ e ∷ [])
  legal_after key before h e fits legal allowed =
      legal_snoc after may key.opening.value before e legal (subst (λ o. may o e.client e.call e.reply) fits.0 allowed)

  pub finds_same : (v v' : View O C R) (history history' : List (Event C R)) (h h' : Home O E) → v ≡ v' → history ≡ history' → h ≡ h'
      → Finds after may entry v history h → Finds after may entry v' history' h'
  finds_same v v' history history' h h' a b c f =
      subst (λ (z : View O C R × List (Event C R) × Home O E). Finds after may entry z.0 z.1 z.2) (λ i. (a i, b i, c i)) f

  key_or : Key O → Option (Key O) → Key O
  key_or d (Some k) = k
  key_or d None = d

  -- a seat knows one key
  pub finds_at : (v : View O C R) (history : List (Event C R)) (h : Home O E) → Finds after may entry v history h → (k : Key O)
      → v.key ≡ Some k
      → Fits after entry k history h × IsLegal after may k.opening.value history
  unfolding key_or
  finds_at v history h f k named =
      subst (λ q. Fits after entry q history h
      × IsLegal after may q.opening.value history) (ap (key_or k) (sym f.1 ∙ named)) (f.2, f.3)

  -- the object that was not ready is put back as it was
  pub home_back : (v w : View O C R) (h : Home O E) (l : List (ℕ × Slot O E)) → w ≡ v → l ≡ (0, Some h) ∷ []
      → Finds after may entry v v.seen h
      → (h' : Home O E) × (l ≡ (0, Some h') ∷ []) × (k : Key O) × (w.key ≡ Some k) × Fits after entry k w.seen h'
  home_back v w h l same held f =
      (h, held, f.0, ap (λ y. y.key) same ∙ f.1, subst (λ y. Fits after entry f.0 y.seen h) (sym same) f.2)

  slot_or : Slot O E → List (ℕ × Slot O E) → Slot O E
  slot_or d [] = d
  slot_or d (y ∷ ys) = y.1

  home_or : Home O E → Slot O E → Home O E
  home_or d (Some y) = y
  home_or d None = d

  -- what comes out of the slot is what the seat held
  pub same_home : (l : List (ℕ × Slot O E)) (h y : Home O E) (x : Slot O E) (more : List (ℕ × Slot O E)) → l ≡ (0, Some h) ∷ []
      → l ≡ (0, x) ∷ more → x ≡ Some y → h ≡ y
  unfolding slot_or home_or
  same_home l h y x more a b e = ap (home_or h) (ap (slot_or x) (sym a ∙ b) ∙ e)
