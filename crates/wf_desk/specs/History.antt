-- Histories: lists of events, and what one thread alone would make of them.
use Rattle.std.specs.Prelude.{◌≡◌, ℕ, ◌==◌, if◌then◌else◌, List, [], ◌∷◌, ◌++◌, length, map, ⊤}
use Rattle.wf_desk.specs.declared.event.Event.{Event}

module _ {C R : Type 0} where
  abbrev pub event : ℕ → C → R → Event C R
  event client call reply = record { client = client; call = call; reply = reply }

  -- the events of a client, in order
  abbrev pub events_of : ℕ → List (Event C R) → List (Event C R)
  events_of client [] = []
  events_of client (e ∷ es) = if e.client == client then (e ∷ events_of client es) else (events_of client es)

  -- the second history begins with the first
  abbrev pub IsPrefix : List (Event C R) → List (Event C R) → Type 0
  IsPrefix xs ys = (zs : List (Event C R)) × (ys ≡ xs ++ zs)

  -- the client's last event has this place in the history
  pub record IsLastAt (client : ℕ) (history : List (Event C R)) (place : ℕ) : Type 0 where
    pub before : List (Event C R)
    pub last : Event C R
    pub after : List (Event C R)
    pub parts : history ≡ before ++ last ∷ after
    pub place_is : length before ≡ place
    pub own : last.client ≡ client
    pub none_after : events_of client after ≡ []

module _ {O C R : Type 0} (after : O → ℕ → C → R → O) where
  -- the object after all events of a history
  abbrev pub replay : O → List (Event C R) → O
  replay object [] = object
  replay object (e ∷ es) = replay (after object e.client e.call e.reply) es

  -- each event's reply is one that the object may give after the events before it
  abbrev pub IsLegal : (O → ℕ → C → R → Type 0) → O → List (Event C R) → Type 0
  IsLegal may object [] = ⊤
  IsLegal may object (e ∷ es) = may object e.client e.call e.reply × IsLegal may (after object e.client e.call e.reply) es

module _ {C R E : Type 0} (entry : ℕ → R → E) where
  -- what a journal keeps of a history
  abbrev pub entries : List (Event C R) → List E
  entries history = map (λ (e : Event C R). entry e.client e.reply) history
