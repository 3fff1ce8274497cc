-- What a pass is made of.
use Rattle.std.specs.Prelude.{◌≡◌, ℕ, ◌<◌, false, Option, Some, None, [], ◌∷◌, length}
use Rattle.atomic_table.specs.declared.shared.Seat.{Seat}
use Rattle.wf_desk.specs.declared.view.Stage.TheVariants.{Idle}
use Rattle.wf_desk.specs.declared.view.Hand.{Hand}
use Rattle.wf_desk.specs.declared.view.View.{View}
use Rattle.wf_desk.specs.declared.view.Key.{Key}
use Rattle.wf_desk.specs.History.{IsLegal, IsLastAt, events_of}
use Rattle.wf_desk.specs.Rule.{Slot}
use Rattle.wf_desk.specs.Pass.{Known}

module _ {O : Type 0} where
  abbrev pub opening_of : Option (Key O) → Option O
  opening_of None = None
  opening_of (Some k) = Some k.opening.value

module _ {O C R E : Type 0} where
  -- the pass of a seat
  abbrev pub known : Seat (Slot O E) (View O C R) → ℕ → ℕ → ℕ → Known O C R
  known seat client left place = record {
    desk = seat.table_id;
    client = client;
    opening = opening_of seat.me.0.key;
    left = left;
    seen = seat.me.0.seen;
    mine = events_of client seat.me.0.seen;
    place = place;
  }

  -- between two calls of its pass a seat waits for nothing and has nothing
  pub record Sits (after : O → ℕ → C → R → O) (may : O → ℕ → C → R
      → Type 0) (seat : Seat (Slot O E) (View O C R)) (client left place : ℕ) : Type 0 where
    pub key : (k : Key O) × (seat.me.0.key ≡ Some k)
    pub idle : seat.me.0.stage ≡ Idle
    pub free : seat.me.1 ≡ []
    pub hand : (hand : Hand C R) × (seat.me.0.hands ≡ hand ∷ []) × (hand.client ≡ client) × (hand.mine ≡ events_of client seat.me.0.seen)
    pub left_is : seat.me.0.left ≡ left
    pub plain : seat.me.0.root ≡ false
    pub legal : (object : O) → opening_of seat.me.0.key ≡ Some object → IsLegal after may object seat.me.0.seen
    pub last : 0 < length (events_of client seat.me.0.seen) → IsLastAt client seat.me.0.seen place
