-- Frames that an embedder holds: painted, begun and ended.
use Rattle.std.specs.Prelude.{◌≡◌, ℕ, Bool, true, false, Option, IfSome, option_map}
use Rattle.wf_calls.specs.declared.call.Call.{Call}
use Rattle.wf_calls.specs.declared.call.Call.TheVariants as call
use Rattle.wf_calls.specs.declared.call.Job.{Job}
use Rattle.wf_calls.specs.declared.reply.Answer.{Answer}
use Rattle.wf_calls.specs.Replies.{with_job}
use Rattle.wf_machine.specs.Object.{IsPaintable, MayAnswer, after}
use Rattle.wf_model.specs.Picture.{painted_job}
use Rattle.wf_model.specs.State.{State}
use Rattle.wf_wire.specs.Answers.{begun}

-- a Job that is painted has its picture, and any other can be painted
abbrev pub IsKept : Bool → Option Job → Type 0
IsKept true job = option_map painted_job job ≡ job
IsKept false job = IfSome job IsPaintable

-- the machine answered a call that begins a frame, and what began is held with its picture
pub record IsBegun (client : ℕ) (c : Call) (old new : State) (now : Option Job) (answer : Answer) : Type 0 where
  pub job : Option Job
  pub machine : new ≡ after old client c (with_job answer job)
  pub may : MayAnswer old client c (with_job answer job)
  pub frame : now ≡ option_map painted_job (begun (with_job answer job))

-- the machine answered the end of a frame, which is held still where that was refused
pub record IsEnded (client : ℕ) (job : Job) (old new : State) (now : Option Job) (answer : Answer) : Type 0 where
  pub machine : new ≡ after old client (call.End job) (with_job answer now)
  pub may : MayAnswer old client (call.End job) (with_job answer now)
