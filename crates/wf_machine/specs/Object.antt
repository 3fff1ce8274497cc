-- The machine as an object with a history: what a call may answer, and what it leaves.
use Rattle.std.specs.Prelude.{◌≡◌, ℕ, ◌≤◌, Bool, true, false, not, ◌&&◌, IsTrue}
use Rattle.wf_pixel.specs.Choice.{is_a8}
use Rattle.wf_image.specs.Bitmap.{Bitmap}
use Rattle.wf_calls.specs.declared.call.Call.{Call}
use Rattle.wf_calls.specs.declared.call.Job.{Job}
use Rattle.wf_calls.specs.declared.call.JobKind.{JobKind}
use Rattle.wf_calls.specs.declared.call.JobKind.TheVariants as kind
use Rattle.wf_calls.specs.declared.reply.Payload.{Payload}
use Rattle.wf_calls.specs.declared.reply.Payload.TheVariants as payload
use Rattle.wf_calls.specs.declared.reply.Reply.{Reply}
use Rattle.wf_calls.specs.declared.code.Code.{Code}
use Rattle.wf_calls.specs.Codes.{is_out_of_memory, is_ok_code}
use Rattle.wf_calls.specs.Parts.{is_begin, register_of}
use Rattle.wf_model.specs.State.{State}
use Rattle.wf_model.specs.Picture.{Fits}
use Rattle.wf_model.specs.Frames.{is_running}
use Rattle.wf_model.specs.Registers.{offered}
use Rattle.wf_model.specs.Names.{kept, settle}
use Rattle.wf_model.specs.Step.{act, step}

-- a call can be answered now: no call that begins a frame waits for the running one
abbrev pub is_ready : State → Call → Bool
is_ready h c = not (is_begin c && is_running h)

-- the step that an answer tells of: one that says so had no memory
abbrev pub answered_step : State → ℕ → Call → Reply → State × Reply
answered_step h client c reply = step h client c (is_out_of_memory reply.code)

-- the state after an answer
abbrev pub after : State → ℕ → Call → Reply → State
after h client c reply = (answered_step h client c reply).0

-- the image of a Job: that of a port's new Job may hold anything until it is painted
abbrev pub SameImage : Bool → JobKind → Bitmap → Bitmap → Type 0
SameImage true (kind.Port port) wanted image = (image.size ≡ wanted.size) × (image.format ≡ wanted.format)
SameImage _ _ wanted image = image ≡ wanted

-- a Job as wanted: a new one, or one that comes back from a refused End
pub record SameJob (is_new : Bool) (wanted job : Job) : Type 0 where
  pub number : job.number ≡ wanted.number
  pub kind : job.kind ≡ wanted.kind
  pub scene : job.scene ≡ wanted.scene
  pub contents : job.contents ≡ wanted.contents
  pub image : SameImage is_new wanted.kind wanted.image job.image

-- a frame is of a context, or of one of the four ports that there are at most
abbrev pub IsOfSomePort : JobKind → Type 0
IsOfSomePort (kind.Context handle target) = Unit {0}
IsOfSomePort (kind.Port port) = (1 ≤ port) × (port ≤ 4)

-- a Job that can be painted and shown: scene and contents fit, the image has the scene's size, with 4 bytes for each
-- pixel, and a port that it is of is one of those that there may be
pub record IsPaintable (job : Job) : Type 0 where
  pub port : IsOfSomePort job.kind
  pub fits : Fits job.scene job.contents
  pub size : job.image.size ≡ job.scene.size
  pub four : is_a8 job.image.format ≡ false

abbrev pub SamePayload : Bool → Payload → Payload → Type 0
SamePayload is_new (payload.Job wanted) (payload.Job job) = SameJob is_new wanted job
SamePayload is_new wanted given = given ≡ wanted

abbrev pub CarriesPaintable : Bool → Payload → Type 0
CarriesPaintable true (payload.Job job) = IsPaintable job
CarriesPaintable _ _ = Unit {0}

-- an answer as wanted: its code, its value and its payload; a Job that is answered with Ok can be painted
pub record IsAnswer (wanted reply : Reply) : Type 0 where
  pub code : reply.code ≡ wanted.code
  pub value : reply.value ≡ wanted.value
  pub payload : SamePayload (is_ok_code reply.code) wanted.payload reply.payload
  pub paintable : CarriesPaintable (is_ok_code reply.code) reply.payload

-- what a call may answer: what the step answers
abbrev pub MayAnswer : State → ℕ → Call → Reply → Type 0
MayAnswer h client c reply = IsAnswer (answered_step h client c reply).1 reply

-- what a call left and answered, without the streams that it left without a name
abbrev pub settled_so : State × Reply → State × Reply
settled_so x = (settle x.0, x.1)

-- what a call does where memory is refused or not: what it leaves, streams without a name dropped, and what it answers
pub record IsMarkedAct (memory_refused : Bool) (h : State) (c : Call) (left : State) (reply : Reply) : Type 0 where
  pub left_is : left ≡ (settled_so (act h c memory_refused)).0
  pub answer : IsAnswer (act h c memory_refused).1 reply

-- where want of memory is told by the answer
abbrev pub IsAct : State → Call → State → Reply → Type 0
IsAct h c left reply = IsMarkedAct (is_out_of_memory reply.code) h c left reply

-- each stream that is kept has a name
abbrev pub IsSettled : State → Type 0
IsSettled h = h.streams ≡ kept h

-- a refusal leaves all as it was, but that the call's register takes the code where it is empty
abbrev pub IsRefusal : State → State → Call → Code → Type 0
IsRefusal h left c refused = IsTrue (not (is_ok_code refused)) → left ≡ offered (register_of c) refused h

-- what is left where memory is refused to a creation
abbrev pub denied : State → ℕ → Call → State
denied h client c = (step h client c true).0

-- what a call may answer where memory is refused to a creation
abbrev pub MayDeny : State → ℕ → Call → Reply → Type 0
MayDeny h client c reply = IsAnswer (step h client c true).1 reply

-- a step of the machine, where memory is refused or not: the state after it and the answer are the plain machine's; what is
-- kept has a name; and a refusal changes the call's register alone
pub record IsMarkedStep (memory_refused : Bool) (h : State) (client : ℕ) (c : Call) (left : State) (reply : Reply) : Type 0 where
  pub after_is : left ≡ (step h client c memory_refused).0
  pub answer : IsAnswer (step h client c memory_refused).1 reply
  pub settled : IsSettled left
  pub refused : IsRefusal h left c reply.code

-- where want of memory is told by the answer
abbrev pub IsStep : State → ℕ → Call → State → Reply → Type 0
IsStep h client c left reply = IsMarkedStep (is_out_of_memory reply.code) h client c left reply
