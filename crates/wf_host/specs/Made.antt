-- What a call makes of a machine and of what its embedder holds.
use Rattle.std.specs.Prelude.{◌≡◌, ℕ, Bool, false, ◌&&◌, ◌||◌, true, nat_le, List, length, Option, Some, None, option_map}
use Rattle.wf_calls.specs.Codes.{code_number}
use Rattle.wf_calls.specs.declared.call.Call.{Call}
use Rattle.wf_calls.specs.declared.call.Call.TheVariants as call
use Rattle.wf_calls.specs.declared.call.Job.{Job}
use Rattle.wf_calls.specs.declared.reply.Reply.{Reply}
use Rattle.wf_calls.specs.declared.request.Request.{Request}
use Rattle.wf_calls.specs.declared.request.Request.TheVariants as request
use Rattle.wf_calls.specs.Parts.{is_begin}
use Rattle.wf_calls.specs.Replies.{given_canvas, given_job}
use Rattle.wf_calls.specs.Requests.{call_of}
use Rattle.wf_image.specs.declared.canvas.Canvas.{Canvas}
use Rattle.wf_machine.specs.Object.{MayAnswer, after}
use Rattle.wf_model.specs.Picture.{painted_job}
use Rattle.wf_model.specs.State.{State}
use Rattle.wf_stream.specs.declared.TheConstants.{MOST_STREAMS}
use Rattle.wf_wire.specs.Answers.{begun}
use Rattle.wf_wire.specs.Asked.{is_acquire}
use Rattle.wf_wire.specs.declared.message.Message.{Message}
use Rattle.wf_wire.specs.declared.message.Message.TheVariants as message
use Rattle.wf_host.specs.declared.canvases.Held.{Held}
use Rattle.wf_host.specs.declared.told.Told.{Told}
use Rattle.wf_host.specs.declared.told.TheConstants.{NOT_MADE}
use Rattle.wf_host.specs.Held.{adding, canvas_of, without}

-- the machine, and the canvases that its embedder holds
pub record Hosted : Type 0 where
  pub machine : State
  pub canvases : List Held

-- what is told of a reply
abbrev pub told_of : Reply → Told
told_of reply = record { code = code_number reply.code; value = reply.value }

abbrev pub not_made : Told
not_made = record { code = NOT_MADE; value = 0 }

-- no call was made
abbrev pub IsNotMade : Hosted → Hosted → Told → Type 0
IsNotMade old new t = (new ≡ old) × (t ≡ not_made)

-- the machine answered a call, and what came with the answer is held beside what was held then
pub record IsMade (client : ℕ) (c : Call) (stream : ℕ) (held : List Held) (old new : Hosted) (t : Told) : Type 0 where
  pub reply : Reply
  pub machine : new.machine ≡ after old.machine client c reply
  pub may : MayAnswer old.machine client c reply
  pub canvases : new.canvases ≡ adding stream (given_canvas reply.payload) held
  pub told : t ≡ told_of reply

-- the stream that a request is for a write buffer of
abbrev pub acquired : Request → ℕ
acquired (request.Acquire stream) = stream
acquired _ = 0

-- a request that needs a place for what comes with its answer, and has none here: one that begins a frame, and one for a write buffer
-- beyond those of all streams
abbrev pub lacks_place : Request → List Held → Bool
lacks_place r held = is_begin (call_of r) || (is_acquire r && nat_le MOST_STREAMS (length held))

-- a call is made, or lacks a place
abbrev pub UnlessLacking : Bool → Hosted → Hosted → Told → Type 0 → Type 0
UnlessLacking true old new t Makes = IsNotMade old new t
UnlessLacking false old new t Makes = Makes

-- a write buffer of a stream is asked for
abbrev pub AsksCanvas : ℕ → ℕ → Hosted → Hosted → Told → Type 0
AsksCanvas client stream old new t =
    UnlessLacking (nat_le MOST_STREAMS (length old.canvases)) old new t (IsMade client (call.Acquire stream) stream old.canvases old new t)

-- a request of a client
abbrev pub Asks : ℕ → Request → Hosted → Hosted → Told → Type 0
Asks client r old new t =
    UnlessLacking (lacks_place r old.canvases) old new t (IsMade client (call_of r) (acquired r) old.canvases old new t)

-- a message by its number, if there is one: what it asks for of a canvas is a call of its own here
abbrev pub Calls : ℕ → Option Message → Hosted → Hosted → Told → Type 0
Calls client (Some (message.Ask r)) old new t = Asks client r old new t
Calls client _ old new t = IsNotMade old new t

-- the canvas of a stream goes with a call, if it is held
abbrev pub GivesOne : Option Canvas → ℕ → (Canvas → Call) → ℕ → Hosted → Hosted → Told → Type 0
GivesOne None client call stream old new t = IsNotMade old new t
GivesOne (Some canvas) client call stream old new t = IsMade client (call canvas) stream (without stream old.canvases) old new t

abbrev pub Gives : ℕ → (Canvas → Call) → ℕ → Hosted → Hosted → Told → Type 0
Gives client call stream old new t = GivesOne (canvas_of stream old.canvases) client call stream old new t

-- frames: what an embedder holds of one is its Job with its picture

-- the machine answered a call with which a frame begins or ends; canvases are held as before
pub record IsFramed (client : ℕ) (c : Call) (old new : Hosted) (t : Told) (now : Option Job) (kept : Reply → Option Job) : Type 0 where
  pub reply : Reply
  pub machine : new.machine ≡ after old.machine client c reply
  pub may : MayAnswer old.machine client c reply
  pub canvases : new.canvases ≡ old.canvases
  pub frame : now ≡ kept reply
  pub told : t ≡ told_of reply

-- a frame begins where the place is empty: the Job that comes with Ok is held with its picture
abbrev pub Begins : ℕ → Call → Hosted → Hosted → Option Job → Option Job → Told → Type 0
Begins client c old new (Some job) now t = IsNotMade old new t × (now ≡ Some job)
Begins client c old new None now t = IsFramed client c old new t now (λ reply. option_map painted_job (begun reply))

-- a frame is begun by a request that begins one
abbrev pub BeginsIf : Bool → ℕ → Call → Hosted → Hosted → Option Job → Option Job → Told → Type 0
BeginsIf true client c old new job now t = Begins client c old new job now t
BeginsIf false client c old new job now t = IsNotMade old new t × (now ≡ job)

abbrev pub BeginsBy : ℕ → Request → Hosted → Hosted → Option Job → Option Job → Told → Type 0
BeginsBy client r old new job now t = BeginsIf (is_begin (call_of r)) client (call_of r) old new job now t

-- the frame that is held ends; where that is refused it is held as before
abbrev pub Ends : ℕ → Hosted → Hosted → Option Job → Option Job → Told → Type 0
Ends client old new None now t = IsNotMade old new t × (now ≡ None)
Ends client old new (Some job) now t = IsFramed client (call.End job) old new t now (λ reply. given_job reply.payload)
