-- A whole session: what its header declares, its messages up to the end or to the first fault, and that fault.
use Rattle.std.specs.Prelude.{◌≡◌, ℕ, zero, suc, List, [], ◌∷◌, length, Option, Some, None, Result, Ok, Err}
use Rattle.wf_calls.specs.declared.ports.Ports.{Ports}
use Rattle.wf_wire.specs.declared.message.Message.{Message}
use Rattle.wf_wire.specs.declared.stop.ServeStop.{ServeStop}
use Rattle.wf_wire.specs.declared.stop.ServeStop.TheVariants as stop
use Rattle.wf_wire.specs.Header.{header}
use Rattle.wf_wire.specs.Messages.{next}
use Rattle.wf_wire.specs.Reading.{Cursor, Read, cursor}

-- a rule that is broken, at a byte of the input
pub record WireFault : Type 0 where
  pub at : ℕ
  pub rule : ℕ

abbrev pub fault : ℕ → ℕ → WireFault
fault at rule = record { at = at; rule = rule }

-- messages, and the fault behind them, if there is one
pub record Told : Type 0 where
  pub messages : List Message
  pub fault : Option WireFault

abbrev pub told : List Message → Option WireFault → Told
told messages fault = record { messages = messages; fault = fault }

-- a message in front of others
abbrev pub before : Message → Told → Told
before m others = told (m ∷ others.messages) others.fault

-- the messages from a place on; `most` is greater than the number of bytes there
unfoldable pub messages : ℕ → Cursor → Told
messages zero c = told [] None
messages (suc most) c = of_next (λ rest. messages most rest) (next c)
  where
    of_next : (Cursor → Told) → Read (Option Message) → Told
    of_next others (Ok (None, rest)) = told [] None
    of_next others (Ok (Some m, rest)) = before m (others rest)
    of_next others (Err e) = told [] (Some (fault e.at e.rule))

-- the ports and pipelines that are declared, where the header has no fault, and what is told behind it
pub record PlainSession : Type 0 where
  pub ports : Option Ports
  pub told : Told

unfoldable pub session : List ℕ → PlainSession
session bytes = of_header (header (cursor 0 bytes))
  where
    of_header : Read Ports → PlainSession
    of_header (Ok (ports, c)) = record { ports = Some ports; told = messages (length bytes) c }
    of_header (Err e) = record { ports = None; told = told [] (Some (fault e.at e.rule)) }

-- what a reader of the next message answers, by the messages from there on
abbrev pub Continues : Option (List ℕ) → ℕ → Option (List ℕ) → ℕ → Result (Option Message) ServeStop → Type 0
Continues (Some bytes) at (Some rest) now (Ok (Some m)) = (most : ℕ)
    → messages (suc most) (cursor at bytes) ≡ before m (messages most (cursor now rest))
Continues (Some bytes) at (Some rest) now (Ok None) = (most : ℕ) → messages most (cursor at bytes) ≡ told [] None
Continues (Some bytes) at (Some rest) now (Err (stop.BadMessage place rule)) = (most : ℕ)
    → messages (suc most) (cursor at bytes) ≡ told [] (Some (fault place rule))
Continues _ at _ now _ = Unit {0}

-- and a reader of the header, by the session
abbrev pub Begins : Option (List ℕ) → Option (List ℕ) → Result (ℕ × Ports) ServeStop → Type 0
Begins (Some bytes) (Some rest) (Ok (at, ports)) =
    session bytes ≡ record { ports = Some ports; told = messages (length bytes) (cursor at rest) }
Begins (Some bytes) (Some rest) (Err (stop.BadMessage place rule)) =
    session bytes ≡ record { ports = None; told = told [] (Some (fault place rule)) }
Begins _ _ _ = Unit {0}
