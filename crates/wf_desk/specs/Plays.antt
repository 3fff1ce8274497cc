-- What the steps on a desk's table make of a seat, and tell it.
use Rattle.std.specs.Prelude.{◌≡◌, ◌≢◌, ℕ, ◌+◌, ◌-◌, ◌<◌, ◌≤◌, true, false, List, [], ◌∷◌, ◌++◌, map, length, sum, Some, None}
use mathlib.Core.Option.{some}
use lib.ListN.{get_elem?}
use Rattle.atomic_table.specs.Table.{Me, Step}
use Rattle.wf_desk.specs.declared.event.Event.{Event}
use Rattle.wf_desk.specs.declared.view.Stage.{Stage}
use Rattle.wf_desk.specs.declared.view.Stage.TheVariants.{Idle, Waits, Has}
use Rattle.wf_desk.specs.declared.view.Hand.{Hand}
use Rattle.wf_desk.specs.declared.view.View.{View}
use Rattle.wf_desk.specs.declared.view.Home.{Home}
use Rattle.wf_desk.specs.declared.view.Key.{Key}
use Rattle.wf_desk.specs.History.{IsPrefix, IsLegal, event, events_of, replay}
use Rattle.wf_desk.specs.Rule.{Slot, Fits}

abbrev pub Sat : Type 0 → Type 0 → Type 0 → Type 0 → Type 0
Sat O C R E = Me (Slot O E) (View O C R)

-- the ticket that a seat waits with is the one to be spent next
abbrev pub IsTurn : ℕ → Stage → Type 0
IsTurn spent Idle = ⊥
IsTurn spent (Waits ticket) = spent ≡ ticket
IsTurn spent (Has ticket) = ⊥

abbrev pub tail_of : List ℕ → List ℕ
tail_of [] = []
tail_of (n ∷ ns) = ns

abbrev pub head_of : List ℕ → ℕ
head_of [] = 0
head_of (n ∷ ns) = n

module _ {C R : Type 0} where
  -- each hand has all its client's events of a history
  abbrev pub AllMine : List (Event C R) → List (Hand C R) → Type 0
  AllMine history hands = (i : ℕ) (hand : Hand C R) → get_elem? hands i ≡ some hand → hand.mine ≡ events_of hand.client history

  -- the hands of a seat that is taken in, with what it had seen
  abbrev pub stamped : List (Event C R) → List (Hand C R) → List (Hand C R)
  stamped seen hands = map (λ (hand : Hand C R). record { client = hand.client; mine = hand.mine; seen = seen }) hands

  -- the hands with one event more
  abbrev pub with_event : Event C R → List (Hand C R) → List (Hand C R)
  with_event e hands = map (λ (hand : Hand C R). record { client = hand.client; mine = hand.mine ++ e ∷ []; seen = hand.seen }) hands

module _ {O C R : Type 0} where
  -- the first seat
  abbrev pub starting : Key O → View O C R
  starting key = record {
    key = Some key;
    stage = Idle;
    seen = [];
    told = [];
    hands = [];
    left = 0;
    quotas = key.quotas.items;
    next = 0;
    root = true;
  }

  abbrev pub at_stage : View O C R → Stage → List (Event C R) → View O C R
  at_stage view stage seen = record view { stage = stage; seen = seen }

  -- after an event of its own
  abbrev pub grown : View O C R → Event C R → View O C R
  grown view e = record view { seen = view.seen ++ e ∷ []; hands = with_event e view.hands; left = view.left - 1 }

  -- the seat that deals out the clients, with one fewer, and the seat of that client
  abbrev pub dealt : View O C R → View O C R
  dealt view = record view { quotas = tail_of view.quotas; next = view.next + 1 }

  abbrev pub blank : View O C R
  blank = record { key = None; stage = Idle; seen = []; told = []; hands = []; left = 0; quotas = []; next = 0; root = false }

  abbrev pub pass_of : View O C R → View O C R
  pass_of view = record blank {
    key = view.key;
    hands = record { client = view.next; mine = []; seen = [] } ∷ [];
    left = head_of view.quotas;
  }

  -- a seat of no client, which carries what a seat has seen
  abbrev pub note_of : View O C R → View O C R
  note_of view = record blank { seen = view.seen }

  -- a seat that is told what another has seen
  abbrev pub noting : View O C R → View O C R → View O C R
  noting view note = record view { told = note.seen }

  -- a seat that takes in the clients of another
  abbrev pub gathering : View O C R → View O C R → View O C R
  gathering view other = record view { hands = view.hands ++ stamped other.seen other.hands }

module _ {O C R E : Type 0} where
  -- a compare-exchange of the tickets drawn: the seat waits, or nothing happened
  abbrev pub drew : Step (Slot O E) → Sat O C R E → ℕ → Sat O C R E → Type 0
  drew st m found m' =
      (found ≡ st.first → m' ≡ (at_stage m.0 (Waits st.first) m.0.seen, m.1)) × (found ≢ st.first → m' ≡ m)

  -- the event: its place is the length of what was seen
  abbrev pub grew : List (Event C R) → Step (Slot O E) → Sat O C R E → ℕ → Sat O C R E → Type 0
  grew events st m found m' = (e : Event C R) → events ≡ e ∷ [] → (found ≡ length m.0.seen) × (found < 4294967296)
      × (m' ≡ (grown m.0 e, m.1))

  -- the ticket is spent, and the object is home
  abbrev pub rested : Step (Slot O E) → Sat O C R E → ℕ → Sat O C R E → Type 0
  rested st m found m' = m' ≡ (at_stage m.0 Idle m.0.seen, [])

module _ {O C R E : Type 0} (after : O → ℕ → C → R → O) (may : O → ℕ → C → R → Type 0) where
  -- an idle seat sees the history so far, in which all is that it was told
  abbrev pub caught : Step (Slot O E) → Sat O C R E → ℕ → Sat O C R E → Type 0
  caught st m found m' =
      (history : List (Event C R)) × (m' ≡ (at_stage m.0 m.0.stage history, m.1)) × IsPrefix m.0.seen history × IsPrefix m.0.told history
      × AllMine history m.0.hands × ((k : Key O) → m.0.key ≡ Some k → IsLegal after may k.opening.value history)

  -- One event of an idle seat, before which there was a history that begins with what the seat had seen. At that moment
  -- `Holds` is true of the object, and the object may give the reply.
  pub record Makes (Holds : O → Type 0) (old : View O C R) (client : ℕ) (call : C) (reply : R) (at : ℕ) (new : Sat O C R E) : Type 0 where
    pub before : List (Event C R)
    pub goes_on : IsPrefix old.seen before
    pub is : new ≡ (grown (at_stage old Idle before) (event client call reply), [])
    pub at_is : at ≡ length before
    pub mine : AllMine before old.hands
    pub legal : (k : Key O) → old.key ≡ Some k → IsLegal after may k.opening.value (before ++ event client call reply ∷ [])
    pub holds : (k : Key O) → old.key ≡ Some k → Holds (replay after k.opening.value before)
    pub allowed : (k : Key O) → old.key ≡ Some k → may (replay after k.opening.value before) client call reply

module _ {O C R E : Type 0} (after : O → ℕ → C → R → O) (may : O → ℕ → C → R → Type 0) (entry : ℕ → R → E) where
  -- what a seat that knows the key finds, when it takes the object out
  abbrev pub Finds : View O C R → List (Event C R) → Home O E → Type 0
  Finds view history home =
      (k : Key O) × (view.key ≡ Some k) × Fits after entry k history home × IsLegal after may k.opening.value history
      × (length history + view.left ≤ sum k.quotas.items)

  -- a load of the tickets spent: where the seat's own is the next, it takes the object out, and has seen all
  abbrev pub took : Step (Slot O E) → Sat O C R E → ℕ → Sat O C R E → Type 0
  took st m found m' =
      (IsTurn found m.0.stage → (k : Key O) → m.0.key ≡ Some k
      → (history : List (Event C R)) × (home : Home O E) × (m' ≡ (at_stage m.0 (Has found) history, (0, Some home) ∷ []))
      × IsPrefix m.0.seen history × AllMine history m.0.hands × Finds m.0 history home)
      × ((IsTurn found m.0.stage → ⊥) → m' ≡ m)
