-- What serving a session makes of its pass, its input and its sink.
use Rattle.std.specs.Prelude.{◌≡◌, ℕ, ◌+◌, ◌<◌, ◌≤◌, Bool, true, false, List, [], ◌∷◌, ◌++◌, length, Option, Some, None, Result, Ok, Err}
use Rattle.wf_image.specs.declared.canvas.Canvas.{Canvas}
use Rattle.wf_io.specs.Bytes.{Puts, PutsPart}
use Rattle.wf_wire.specs.declared.message.Message.{Message}
use Rattle.wf_wire.specs.declared.stop.ServeStop.{ServeStop}
use Rattle.wf_wire.specs.declared.stop.ServeStop.TheVariants as stop
use Rattle.wf_wire.specs.Answers.{Answers, AnswersAll, Closes}
use Rattle.wf_machine.specs.Histories.{Happening, PlainPass}
use Rattle.wf_wire.specs.Grown.{Grew}
use Rattle.wf_wire.specs.Messages.{next}
use Rattle.wf_wire.specs.Reading.{Cursor, broken, cursor}
use Rattle.wf_wire.specs.Session.{Told, fault, told}
use Rattle.wf_wire.specs.Taking.{FindsNext}

-- the input

-- these messages, read one after another, lead from one place to another
abbrev pub Reads : List Message → Cursor → Cursor → Type 0
Reads [] c d = d ≡ c
Reads (m ∷ ms) c d = (e : Cursor) × (next c ≡ Ok (Some m, e)) × Reads ms e d

-- where the source tells its bytes
abbrev pub ReadsTo : ℕ → List Message → Option (List ℕ) → Option (List ℕ) → ℕ → Type 0
ReadsTo at ms None rest place = Unit {0}
ReadsTo at ms (Some bytes) None place = ⊥
ReadsTo at ms (Some bytes) (Some rest) place = Reads ms (cursor at bytes) (cursor place rest)

-- why a session stopped before its input ended, if it did
abbrev pub stop_of : {T : Type 0} → Result T ServeStop → Option ServeStop
stop_of (Ok x) = None
stop_of (Err s) = Some s

-- Why a session stopped at the place `d`, where its source has `end` left: at the end of the input; after the field that breaks a rule;
-- after a message that may not be answered; where the source failed before a whole message came; or after a message whose answer was cut.
abbrev pub Stops : Cursor → List ℕ → Option ServeStop → Type 0
Stops d end None = (now : ℕ) × (next d ≡ Ok (None, cursor now end))
Stops d end (Some (stop.BadMessage place rule)) = next d ≡ Err (broken place rule end)
Stops d end (Some (stop.Quota place)) = (place ≡ d.at) × (m : Message) × (now : ℕ) × (next d ≡ Ok (Some m, cursor now end))
Stops d end (Some stop.ReadFault) = (now : ℕ) × FindsNext next (Some d.left) d.at (Some end) now (Err stop.ReadFault)
Stops d end (Some (stop.WriteFault written)) = d.left ≡ end

-- the messages `ms` that were answered are the first ones from the place `at` on, and the session stopped after them
pub record IsRead (at : ℕ) (ms : List Message) (bytes end : List ℕ) (s : Option ServeStop) : Type 0 where
  pub place : Cursor
  pub reads : Reads ms (cursor at bytes) place
  pub stops : Stops place end s

-- where the source tells its bytes
abbrev pub IsReadOf : ℕ → List Message → Option (List ℕ) → Option (List ℕ) → Option ServeStop → Type 0
IsReadOf at ms None new s = Unit {0}
IsReadOf at ms (Some bytes) None s = ⊥
IsReadOf at ms (Some bytes) (Some end) s = IsRead at ms bytes end s

-- the sink

-- The answer that was cut is the last message's: all before it were put whole. `written` bytes were put.
pub record WasCut (client left : ℕ) (ms : List Message) (es : List Happening) (bytes : List ℕ) (held : Option Canvas) (written : ℕ)
    : Type 0 where
  pub earlier : List Message
  pub last : Message
  pub first : List Happening
  pub rest : List Happening
  pub answers : List ℕ
  pub answer : List ℕ
  pub middle : Option Canvas
  pub messages : ms ≡ earlier ++ last ∷ []
  pub events : es ≡ first ++ rest
  pub bytes_are : bytes ≡ answers ++ answer
  pub answered : AnswersAll client earlier left None first answers middle
  pub cut : Answers client last middle rest answer held
  pub least : length answers ≤ written

module _ {K : Type 0} (took : K → List ℕ → Type 0) where
  -- What was put of the answers of all messages: all of it, or what stands before the byte where the sink failed. With Quota fewer than
  -- three calls are left after the events of the messages.
  abbrev pub PutsOf : K → K → ℕ → ℕ → List Message → List Happening → List ℕ → Option Canvas → Option ServeStop → Type 0
  PutsOf before now client left ms es bytes held (Some (stop.WriteFault written)) =
      PutsPart took before now 0 bytes written × WasCut client left ms es bytes held written
  PutsOf before now client left ms es bytes held (Some (stop.Quota place)) = Puts took before now bytes × (left < length es + 3)
  PutsOf before now client left ms es bytes held _ = Puts took before now bytes

  -- Messages were answered, one after another, and all answers were put: `ms` are these, and the next one begins at `place`.
  pub record HeardAll (old new : PlainPass) (before now : K) (at : ℕ) (input rest : Option (List ℕ)) (place : ℕ) (held : Option Canvas)
      (written : ℕ) : Type 0 where
    pub ms : List Message
    pub events : List Happening
    pub bytes : List ℕ
    pub reads : ReadsTo at ms input rest place
    pub answers : AnswersAll old.client ms old.left None events bytes held
    pub put : Puts took before now bytes
    pub long : written ≡ length bytes
    pub grew : Grew events old new

  -- Messages were answered, one after another: `ms` are those whose events were made, and `held` is the canvas that is held then.
  pub record Served (old new : PlainPass) (before now : K) (at : ℕ) (input rest : Option (List ℕ)) (held : Option Canvas)
      (s : Option ServeStop) : Type 0 where
    pub ms : List Message
    pub events : List Happening
    pub bytes : List ℕ
    pub read : IsReadOf at ms input rest s
    pub answers : AnswersAll old.client ms old.left None events bytes held
    pub put : PutsOf before now old.client old.left ms events bytes held s
    pub grew : Grew events old new

  -- and then a canvas that was still held was discarded
  pub record Closed (old new : PlainPass) (before now : K) (at : ℕ) (input rest : Option (List ℕ)) (result : Result ℕ ServeStop)
      : Type 0 where
    pub middle : PlainPass
    pub held : Option Canvas
    pub served : Served old middle before now at input rest held (stop_of result)
    pub closing : List Happening
    pub closes : Closes old.client held closing
    pub grew : Grew (served.events ++ closing) old new
    pub count : (n : ℕ) → result ≡ Ok n → n ≡ length (served.events ++ closing)

-- causes

-- the sink failed
abbrev pub is_write_fault : Option ServeStop → Bool
is_write_fault (Some (stop.WriteFault written)) = true
is_write_fault _ = false

-- the messages that were answered are all that are told, up to the end or to the fault that stopped the session, or the first of them
abbrev pub AreTold : List Message → Told → Option ServeStop → Type 0
AreTold ms t None = t ≡ told ms None
AreTold ms t (Some (stop.BadMessage place rule)) = t ≡ told ms (Some (fault place rule))
AreTold ms t (Some s) = (others : List Message) × (t.messages ≡ ms ++ others)
