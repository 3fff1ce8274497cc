-- What the mode `session` says of its input, and what it puts.
use Rattle.std.specs.Prelude.{◌≡◌, ℕ, ◌+◌, ◌<◌, ◌⊎◌, List, [], ◌++◌, length, Option, Some, None, Ok, IfSome}
use Rattle.wf_io.specs.Bytes.{Puts, PutsNothing, PutsPart}
use Rattle.wf_io.specs.Causes.{Rose}
use Rattle.wf_calls.specs.declared.order.Turn.{Turn}
use Rattle.wf_calls.specs.declared.ports.Ports.{Ports}
use Rattle.wf_desk.specs.History.{IsLegal}
use Rattle.wf_image.specs.declared.canvas.Canvas.{Canvas}
use Rattle.wf_machine.specs.Object.{MayAnswer, after}
use Rattle.wf_model.specs.State.{opening}
use Rattle.wf_wire.specs.declared.message.Message.{Message}
use Rattle.wf_wire.specs.Answers.{AnswersAll, Closes}
use Rattle.wf_machine.specs.Histories.{Happening}
use Rattle.wf_wire.specs.Header.{header}
use Rattle.wf_wire.specs.Messages.{next}
use Rattle.wf_wire.specs.Reading.{Cursor, cursor}
use Rattle.wf_wire.specs.Served.{Reads, WasCut}
use Rattle.wf_wire.specs.Session.{fault, session}
use Rattle.wf_play.specs.declared.report.Status.{Status}
use Rattle.wf_play.specs.declared.report.Status.TheVariants as status

-- the calls of the client of a session
abbrev pub session_calls : ℕ
session_calls = 1048576

-- A run of messages by one client, on the machine of these ports before its first call: their events and then the discard of a canvas that
-- is held are a history in which the machine answers each, and these are the bytes of the answers.
pub record Runs (ports : Ports) (ms : List Message) (bytes : List ℕ) : Type 0 where
  pub events : List Happening
  pub closing : List Happening
  pub held : Option Canvas
  pub answers : AnswersAll 0 ms session_calls None events bytes held
  pub closes : Closes 0 held closing
  pub legal : IsLegal after MayAnswer (opening ports) (events ++ closing)

-- with fewer than three calls left after the messages
pub record IsSpent (ports : Ports) (ms : List Message) (bytes : List ℕ) : Type 0 where
  pub run : Runs ports ms bytes
  pub few : session_calls < length run.events + 3

-- with the answer to the last message cut
pub record IsCutIn (ports : Ports) (ms : List Message) (bytes : List ℕ) (written : ℕ) : Type 0 where
  pub run : Runs ports ms bytes
  pub cut : WasCut 0 session_calls ms run.events bytes run.held written

-- these messages follow the header of an input, and lead to a place
pub record Leads (input : List ℕ) (ports : Ports) (ms : List Message) (place : Cursor) : Type 0 where
  pub first : Cursor
  pub header_is : header (cursor 0 input) ≡ Ok (ports, first)
  pub reads : Reads ms first place

-- a whole message of an input begins at this byte where fewer than three calls are left after a run of the messages before it
pub record IsAtQuota (input : List ℕ) (at : ℕ) (bytes : List ℕ) : Type 0 where
  pub ports : Ports
  pub ms : List Message
  pub message : Message
  pub place : Cursor
  pub now : Cursor
  pub leads : Leads input ports ms place
  pub place_is : place.at ≡ at
  pub whole : next place ≡ Ok (Some message, now)
  pub spent : IsSpent ports ms bytes

module _ {O : Type 0} (took : O → List ℕ → Type 0) (old new : O) where
  -- all answers to these messages were put; nothing, where there is no header
  abbrev pub PutsAnswers : Option Ports → List Message → Type 0
  PutsAnswers None ms = PutsNothing took old new
  PutsAnswers (Some ports) ms = (bytes : List ℕ) × Runs ports ms bytes × Puts took old new bytes

  -- the answers to the first messages of those that the input tells
  abbrev pub PutsSome : List ℕ → Type 0
  PutsSome input =
      (ms others : List Message) × ((session input).told.messages ≡ ms ++ others) × PutsAnswers (session input).ports ms

  -- those to the messages before the one at this byte, before which too few calls are left
  abbrev pub PutsToQuota : List ℕ → ℕ → Type 0
  PutsToQuota input at = (bytes : List ℕ) × IsAtQuota input at bytes × Puts took old new bytes

  -- what stands before the byte where the sink failed
  abbrev pub PutsToFault : List ℕ → ℕ → Type 0
  PutsToFault input written =
      (ports : Ports) × (ms : List Message) × (place : Cursor) × (bytes : List ℕ) × Leads input ports ms place
      × IsCutIn ports ms bytes written × PutsPart took old new 0 bytes written

  -- what each status says of an input of these bytes: others than these do not come
  abbrev pub SaysOfSession : List ℕ → Status → Type 0
  SaysOfSession input status.Done =
      ((session input).told.fault ≡ None) × ((ports : Ports) × ((session input).ports ≡ Some ports))
      × PutsAnswers (session input).ports (session input).told.messages
  SaysOfSession input (status.BadMessage at rule) =
      ((session input).told.fault ≡ Some (fault at rule)) × PutsAnswers (session input).ports (session input).told.messages
  SaysOfSession input (status.Quota at) = PutsToQuota input at
  SaysOfSession input status.ReadFault = PutsNothing took old new ⊎ PutsSome input
  SaysOfSession input (status.WriteFault written) = PutsToFault input written
  SaysOfSession input status.NoMemory = PutsNothing took old new
  SaysOfSession input _ = ⊥

  -- no order is told, and each status says this of the input, where that tells its bytes
  pub record IsServed (order : List Turn) (input : Option (List ℕ)) (s : Status) : Type 0 where
    pub none : order ≡ []
    pub says : IfSome input (λ bytes. SaysOfSession bytes s)

-- where no byte breaks a rule, no fault is counted, and no message comes to the quota, all messages are answered, unless memory runs out
abbrev pub AnswersEach : List ℕ → (input_before input_now film_before film_now : ℕ) → Status → Type 0
AnswersEach input input_before input_now film_before film_now s =
    (session input).told.fault ≡ None → ¬ Rose input_before input_now → ¬ Rose film_before film_now
    → ((at : ℕ) (bytes : List ℕ) → IsAtQuota input at bytes → ⊥)
    → (s ≡ status.Done) ⊎ (s ≡ status.NoMemory)
