-- The rule of a desk's table. The words are the length of the history, the tickets that were drawn, and those that were
-- spent; the slot has the object with its journal, or nothing while a seat has them.
use Rattle.std.specs.Prelude.{◌≡◌, ℕ, ◌+◌, ◌<◌, ◌≤◌, true, List, [], ◌∷◌, length, sum, Option, Some, vec_capacity, ⊤}
use mathlib.Core.Option.{some}
use lib.ListN.{get_elem?}
use Rattle.atomic_table.specs.Table.{State}
use Rattle.wf_desk.specs.declared.event.Event.{Event}
use Rattle.wf_desk.specs.declared.view.Stage.{Stage}
use Rattle.wf_desk.specs.declared.view.Stage.TheVariants.{Idle, Waits, Has}
use Rattle.wf_desk.specs.declared.view.Hand.{Hand}
use Rattle.wf_desk.specs.declared.view.View.{View}
use Rattle.wf_desk.specs.declared.view.Home.{Home}
use Rattle.wf_desk.specs.declared.view.Key.{Key}
use Rattle.wf_desk.specs.History.{IsPrefix, events_of, replay, IsLegal, entries}

abbrev pub Slot : Type 0 → Type 0 → Type 0
Slot O E = Option (Home O E)

-- the seat has the object
abbrev pub HasObject : Stage → Type 0
HasObject Idle = ⊥
HasObject (Waits ticket) = ⊥
HasObject (Has ticket) = ⊤

-- Where a seat stands, at the tickets drawn and spent, who drew each, and the history. A ticket is not yet spent, and
-- another seat has another. The seat that has the object has seen the whole history, and its ticket is the next to be
-- spent.
abbrev pub Stands : {A : Type 0} → ℕ → ℕ → (ℕ → ℕ) → List A → ℕ → List A → Stage → Type 0
Stands drawn spent drawer history seat seen Idle = ⊤
Stands drawn spent drawer history seat seen (Waits ticket) = (spent ≤ ticket) × (ticket < drawn) × (drawer ticket ≡ seat)
Stands drawn spent drawer history seat seen (Has ticket) =
    (ticket ≡ spent) × (ticket < drawn) × (drawer ticket ≡ seat) × (seen ≡ history)

-- how many tickets a seat has
abbrev pub ticket_count : Stage → ℕ
ticket_count Idle = 0
ticket_count (Waits ticket) = 1
ticket_count (Has ticket) = 1

module _ {C R : Type 0} where
  -- the hand of a client at its seat: all the client's events, and no other seat has that client
  abbrev pub IsHand : List (Event C R) → (ℕ → ℕ) → ℕ → ℕ → Hand C R → Type 0
  IsHand history seats next seat hand =
      (hand.mine ≡ events_of hand.client history) × (seats hand.client ≡ seat) × (hand.client < next) × IsPrefix hand.seen history

module _ {O C R : Type 0} where
  -- how many calls are left to a seat, and to those that are still to come from it
  abbrev pub weight : View O C R → ℕ
  weight view = view.left + sum view.quotas

  abbrev pub weights : List (View O C R) → ℕ
  weights [] = 0
  weights (view ∷ views) = weight view + weights views

  -- how many tickets are not yet spent
  abbrev pub queue : List (View O C R) → ℕ
  queue [] = 0
  queue (view ∷ views) = ticket_count view.stage + queue views

  -- What a seat knows is true. The first seat alone deals out the clients, and knows which is the next.
  pub record Knows (key : Key O) (drawn spent : ℕ) (drawer : ℕ → ℕ) (history : List (Event C R)) (seats : ℕ
      → ℕ) (next seat : ℕ) (view : View O C R) : Type 0 where
    pub key_is : (k : Key O) → view.key ≡ Some k → k ≡ key
    pub stands : Stands drawn spent drawer history seat view.seen view.stage
    pub seen : IsPrefix view.seen history
    pub told : IsPrefix view.told history
    pub hands : (i : ℕ) (hand : Hand C R) → get_elem? view.hands i ≡ some hand → IsHand history seats next seat hand
    pub holder : HasObject view.stage → (hand : Hand C R) × (get_elem? view.hands 0 ≡ some hand)
    pub root : view.root ≡ true → (seat ≡ 0) × (view.next ≡ next) × (view.next + length view.quotas ≡ length key.quotas.items)

  abbrev pub NoneHas : List (View O C R) → Type 0
  NoneHas views = (seat : ℕ) (view : View O C R) → get_elem? views seat ≡ some view → HasObject view.stage → ⊥

module _ {O C R E : Type 0} (after : O → ℕ → C → R → O) (entry : ℕ → R → E) where
  -- the object and its journal after a history, with room in the journal for all calls
  abbrev pub Fits : Key O → List (Event C R) → Home O E → Type 0
  Fits key history home =
      (home.object ≡ replay after key.opening.value history) × (home.journal.items ≡ entries entry history)
      × (sum key.quotas.items ≤ vec_capacity home.journal)

module _ {O C R E : Type 0} (after : O → ℕ → C → R → O) (may : O → ℕ → C → R → Type 0) (entry : ℕ → R → E) where
  pub record Kept (key : Key O) (s : State (Slot O E) (View O C R)) : Type 0 where
    pub history : List (Event C R)
    pub drawn : ℕ
    pub spent : ℕ
    -- which seat drew a ticket, and which has a client
    pub drawer : ℕ → ℕ
    pub seats : ℕ → ℕ
    -- the next client to be dealt out
    pub next : ℕ
    pub words : s.words ≡ length history ∷ drawn ∷ spent ∷ []
    pub order : spent ≤ drawn
    pub line : spent + queue s.views ≡ drawn
    pub small : drawn < 18446744073709551616
    pub bound : sum key.quotas.items < 4294967296
    pub legal : IsLegal after may key.opening.value history
    pub room : length history + weights s.views ≤ sum key.quotas.items
    pub count : next ≤ length key.quotas.items
    pub unborn : (client : ℕ) → next ≤ client → events_of client history ≡ []
    pub each : (seat : ℕ) (view : View O C R) → get_elem? s.views seat ≡ some view
        → Knows key drawn spent drawer history seats next seat view
    pub home : NoneHas s.views → (home : Home O E) × (get_elem? s.homes 0 ≡ some (some (Some home))) × Fits after entry key history home
