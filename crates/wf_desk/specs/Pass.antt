-- What a contract sees of a pass.
use Rattle.std.specs.Prelude.{◌≡◌, ℕ, ◌+◌, ◌<◌, Option, Some, List, [], ◌∷◌, ◌++◌, length}
use Rattle.atomic_table.specs.Seated.{TableId}
use Rattle.wf_desk.specs.declared.event.Event.{Event}
use Rattle.wf_desk.specs.History.{IsLegal, IsPrefix, IsLastAt, events_of, event, replay}

-- the desk that it is of, its client, the object that the desk opened with, how many calls are left to it, the
-- history as far as it was told, its client's events in that, and the place of the last of these, 0 before there is one
pub record Known (O C R : Type 0) : Type 0 where
  pub desk : TableId
  pub client : ℕ
  pub opening : Option O
  pub left : ℕ
  pub seen : List (Event C R)
  pub mine : List (Event C R)
  pub place : ℕ

module _ {O C R : Type 0} (after : O → ℕ → C → R → O) (may : O → ℕ → C → R → Type 0) where
  -- The call is one event. What the pass then sees begins with all that it had seen and ends with the event. Just
  -- before the event `Holds` is true of the object, and the object may give the reply.
  pub record Made (Holds : O → Type 0) (old : Known O C R) (call : C) (reply : R) (new : Known O C R) : Type 0 where
    pub desk : new.desk ≡ old.desk
    pub client : new.client ≡ old.client
    pub opening : new.opening ≡ old.opening
    pub left : new.left + 1 ≡ old.left
    pub mine : new.mine ≡ old.mine ++ event old.client call reply ∷ []
    pub before : List (Event C R)
    pub goes_on : IsPrefix old.seen before
    pub seen : new.seen ≡ before ++ event old.client call reply ∷ []
    pub place : new.place ≡ length before
    pub holds : (object : O) → old.opening ≡ Some object → Holds (replay after object before)
    pub allowed : (object : O) → old.opening ≡ Some object → may (replay after object before) old.client call reply

  -- what every pass keeps: it has seen a legal history, and knows its client's events in that
  pub record IsOwn (k : Known O C R) : Type 0 where
    pub object : O
    pub opening : k.opening ≡ Some object
    pub legal : IsLegal after may object k.seen
    pub mine : k.mine ≡ events_of k.client k.seen
    pub last : 0 < length k.mine → IsLastAt k.client k.seen k.place

module _ {O C R : Type 0} where
  -- the passes of a new desk, from a client on
  abbrev pub fresh : TableId → O → ℕ → List ℕ → List (Known O C R)
  fresh desk opening client [] = []
  fresh desk opening client (quota ∷ quotas) =
      record { desk = desk; client = client; opening = Some opening; left = quota; seen = []; mine = []; place = 0 }
      ∷ fresh desk opening (client + 1) quotas
