-- What messages are answered, and the events that they make.
use Rattle.std.proofs.Common.{subst}
use Rattle.std.specs.Prelude.{◌≡◌, ℕ, ◌-◌, ◌≤◌, Bool, true, false, List, [], ◌∷◌, ◌++◌, length, Option, Some, None}
use Rattle.byteorder.specs.Endian.{big_bytes}
use Rattle.wf_image.specs.Bitmap.{Bitmap}
use Rattle.wf_image.specs.declared.canvas.Canvas.{Canvas}
use Rattle.wf_calls.specs.declared.call.Call.{Call}
use Rattle.wf_calls.specs.declared.call.Call.TheVariants as call
use Rattle.wf_calls.specs.declared.call.Job.{Job}
use Rattle.wf_calls.specs.declared.reply.Payload.{Payload}
use Rattle.wf_calls.specs.declared.reply.Payload.TheVariants as payload
use Rattle.wf_calls.specs.declared.reply.Reply.{Reply}
use Rattle.wf_calls.specs.Codes.{code_number, is_ok_code}
use Rattle.wf_desk.specs.History.{event}
use Rattle.wf_machine.specs.Histories.{Happening}
use Rattle.wf_machine.specs.Object.{CarriesPaintable, IsPaintable}
use Rattle.wf_model.specs.Picture.{painted_job}
use Rattle.wf_wire.specs.declared.message.Message.{Message}
use Rattle.wf_wire.specs.declared.message.Message.TheVariants as message
use Rattle.wf_wire.specs.Asked.{asked, held_after, is_show, quiet_canvas}

-- bytes

-- a code and a value
abbrev pub answer_bytes : ℕ → ℕ → List ℕ
answer_bytes code value = code ∷ big_bytes 4 value

-- an image: its width, its height and its pixels
abbrev pub image_bytes : Bitmap → List ℕ
image_bytes image = big_bytes 2 image.size.w ++ big_bytes 2 image.size.h ++ image.bytes

-- an image that is shown or not
abbrev pub frame_bytes : Bool → Bitmap → List ℕ
frame_bytes true image = image_bytes image
frame_bytes false image = []

-- the picture of a frame that began, where it is shown
abbrev pub shown_bytes : Bool → Option Job → List ℕ
shown_bytes shows (Some job) = frame_bytes shows (painted_job job).image
shown_bytes shows None = []

-- the frame that began with an answer: it is taken with Ok alone
abbrev pub job_in : Bool → Payload → Option Job
job_in true (payload.Job job) = Some job
job_in _ _ = None

abbrev pub begun : Reply → Option Job
begun reply = job_in (is_ok_code reply.code) reply.payload

-- a frame that began can be painted
pub paintable : (job : Job) (ok : Bool) (p : Payload) → CarriesPaintable ok p → job_in ok p ≡ Some job → IsPaintable job
paintable job true (payload.Job j) carries is = let same : j ≡ job = cc in subst IsPaintable same carries
paintable job true (payload.Canvas canvas) carries is = absurd cc
paintable job true payload.Nothing carries is = absurd cc
paintable job false p carries is = absurd cc

-- the answer to a message that made a call
abbrev pub reply_bytes : Message → Reply → List ℕ
reply_bytes m reply = answer_bytes (code_number reply.code) reply.value ++ shown_bytes (is_show m) (begun reply)

-- and to one that made none: a paint on a canvas is done, and all else lacks a canvas or has one already
abbrev pub quiet_bytes : Message → Option Canvas → List ℕ
quiet_bytes (message.Paint paint) (Some canvas) = answer_bytes 0 0
quiet_bytes _ _ = answer_bytes 255 0

-- one message

-- the end of a frame that began, painted
abbrev pub AreEnds : ℕ → Option Job → List Happening → Type 0
AreEnds client None es = es ≡ []
AreEnds client (Some job) es = (reply : Reply) × (es ≡ event client (call.End (painted_job job)) reply ∷ [])

-- the call of a message and, where a frame began, its end
pub record Makes (client : ℕ) (m : Message) (held : Option Canvas) (c : Call) (es : List Happening) (bytes : List ℕ)
    (now : Option Canvas) : Type 0 where
  pub reply : Reply
  pub ends : List Happening
  pub events : es ≡ event client c reply ∷ ends
  pub ended : AreEnds client (begun reply) ends
  pub bytes_are : bytes ≡ reply_bytes m reply
  pub canvas : now ≡ held_after m held reply

-- nothing is called
pub record IsQuiet (m : Message) (held : Option Canvas) (es : List Happening) (bytes : List ℕ) (now : Option Canvas) : Type 0 where
  pub events : es ≡ []
  pub bytes_are : bytes ≡ quiet_bytes m held
  pub canvas : now ≡ quiet_canvas m held

-- the events `es` of a message, its answer, and the canvas that is held then, where `held` was held before
abbrev pub Answers : ℕ → Message → Option Canvas → List Happening → List ℕ → Option Canvas → Type 0
Answers client m held es bytes now = of_call (asked held m)
  where
    of_call : Option Call → Type 0
    of_call None = IsQuiet m held es bytes now
    of_call (Some c) = Makes client m held c es bytes now

-- messages one after another

-- a message, which is answered with at least three calls left, and what the others after it make
pub record First (Others : ℕ → Option Canvas → List Happening → List ℕ → Option Canvas → Type 0) (client : ℕ) (m : Message)
    (left : ℕ) (held : Option Canvas) (es : List Happening) (bytes : List ℕ) (now : Option Canvas) : Type 0 where
  pub room : 3 ≤ left
  pub first : List Happening
  pub rest : List Happening
  pub answer : List ℕ
  pub answers : List ℕ
  pub middle : Option Canvas
  pub events : es ≡ first ++ rest
  pub bytes_are : bytes ≡ answer ++ answers
  pub answered : Answers client m held first answer middle
  pub others : Others (left - length first) middle rest answers now

-- the events of messages, all their answers, and the canvas that is held then; `left` calls are left to the client before them
abbrev pub AnswersAll : ℕ → List Message → ℕ → Option Canvas → List Happening → List ℕ → Option Canvas → Type 0
AnswersAll client [] left held es bytes now = (es ≡ []) × (bytes ≡ []) × (now ≡ held)
AnswersAll client (m ∷ ms) left held es bytes now = First (AnswersAll client ms) client m left held es bytes now

-- a canvas that is held at the end is discarded
abbrev pub Closes : ℕ → Option Canvas → List Happening → Type 0
Closes client None es = es ≡ []
Closes client (Some canvas) es = (reply : Reply) × (es ≡ event client (call.Discard canvas) reply ∷ [])
