-- What is gathered from the passes, when a desk is closed.
use Rattle.std.specs.Prelude.{◌≡◌, ℕ, ◌<◌, ◌≤◌, List, [], ◌∷◌, ◌++◌, length}
use mathlib.Core.Option.{some}
use lib.ListN.{get_elem?}
use Rattle.wf_desk.specs.declared.event.Event.{Event}
use Rattle.wf_desk.specs.declared.view.Hand.{Hand}
use Rattle.wf_desk.specs.declared.view.View.{View}
use Rattle.wf_desk.specs.declared.view.Key.{Key}
use Rattle.wf_desk.specs.History.{IsLegal, IsPrefix, entries, events_of, replay}
use Rattle.wf_desk.specs.Pass.{Known}

module _ {O C R : Type 0} where
  -- the pass of a seat, with one client
  abbrev pub IsPassOf : View O C R → Known O C R → Type 0
  IsPassOf view k = (view.seen ≡ k.seen) × ((hand : Hand C R) × (view.hands ≡ hand ∷ []) × (hand.client ≡ k.client) × (hand.mine ≡ k.mine))

  abbrev pub hand_of : Known O C R → Hand C R
  hand_of k = record { client = k.client; mine = k.mine; seen = k.seen }

  -- the hands of passes, the last one first
  abbrev pub hands_of : List (Known O C R) → List (Hand C R)
  hands_of [] = []
  hands_of (k ∷ ks) = hands_of ks ++ hand_of k ∷ []

  -- each pass knows its client's events in what it has seen
  abbrev pub AllOwn : List (Known O C R) → Type 0
  AllOwn passes = (i : ℕ) (k : Known O C R) → get_elem? passes i ≡ some k → k.mine ≡ events_of k.client k.seen

  -- the seat has one hand more
  abbrev pub Gathers : View O C R → Known O C R → View O C R → Type 0
  Gathers old k new = (new.seen ≡ old.seen) × (new.hands ≡ old.hands ++ hand_of k ∷ [])

module _ {C R : Type 0} where
  -- the history behind the hands
  abbrev pub AllKnown : List (Hand C R) → List (Event C R) → Type 0
  AllKnown hands history = (i : ℕ) (hand : Hand C R) → get_elem? hands i ≡ some hand → (hand.mine ≡ events_of hand.client history)
      × IsPrefix hand.seen history

  -- each client up to a count has a hand
  abbrev pub Covers : List (Hand C R) → ℕ → Type 0
  Covers hands count = (client : ℕ) → client < count → (i : ℕ) × (hand : Hand C R) × (get_elem? hands i ≡ some hand)
      × (hand.client ≡ client)

module _ {O C R E : Type 0} (after : O → ℕ → C → R → O) (may : O → ℕ → C → R → Type 0) (entry : ℕ → R → E) where
  -- one history is behind the hands; the object is its replay, and the journal has its entries
  pub record Ends (key : Key O) (hands : List (Hand C R)) (object : O) (journal : List E) : Type 0 where
    pub history : List (Event C R)
    pub legal : IsLegal after may key.opening.value history
    pub object_is : object ≡ replay after key.opening.value history
    pub journal_is : journal ≡ entries entry history
    pub known : AllKnown hands history
    pub no_other : (client : ℕ) → length key.quotas.items ≤ client → events_of client history ≡ []
