-- Frames that are painted, and that end.
use Rattle.std.proofs.Common.{◌≡◌, ℕ, Option, Some, None, IfSome, is_some, option_map, refl, sym, subst, true}
use Rattle.wf_calls.specs.declared.call.Call.TheVariants as call
use Rattle.wf_calls.specs.declared.call.Job.{Job}
use Rattle.wf_calls.specs.declared.reply.Answer.{Answer}
use Rattle.wf_calls.specs.Replies.{bare, given_job, job_payload, with_job}
use Rattle.wf_image.specs.Bitmap.{drawn}
use Rattle.wf_machine.specs.Object.{IsStep}
use Rattle.wf_model.specs.Picture.{painted_job}
use Rattle.wf_model.specs.State.{State}
use Rattle.wf_host.specs.Made.{Ends, Hosted, told_of}
use Rattle.wf_host.specs.Painted.{IsEnded, IsKept}
use Rattle.wf_host.proofs.Ended.{stays_painted}

-- what is painted is painted
pub twice : (o : Option Job) → option_map painted_job (option_map painted_job o) ≡ option_map painted_job o
unfolding drawn
twice None = refl
twice (Some job) = refl

-- the picture has the size of the scene
pub size_is : (o : Option Job) → option_map (λ job. job.scene.size) o ≡ option_map (λ job. job.image.size) (option_map painted_job o)
unfolding drawn
size_is None = refl
size_is (Some job) = refl

-- a frame that has its picture ends with that
pub ended : (client : ℕ) (h left : State) (o : Option Job) (answer : Answer) (now : Option Job) → IsKept true o
    → IfSome o (λ j. IsStep h client (call.End j) left (with_job answer now))
    → IfSome o (λ job. IsEnded client job h left (option_map painted_job now) answer)
ended client h left None answer now kept steps = tt
ended client h left (Some job) answer now kept steps =
    let same : painted_job job ≡ job = cc in
    let still : option_map painted_job now ≡ now = stays_painted job answer now h client steps.answer same in
    subst (λ (o : Option Job). IsEnded client job h left o answer) (sym still)
    (record { machine = steps.after_is; may = steps.answer })

pub keeps_painted : (client : ℕ) (h left : State) (o : Option Job) (answer : Answer) (now : Option Job) → IsKept true o
    → is_some o ≡ true → IfSome o (λ j. IsStep h client (call.End j) left (with_job answer now)) → IsKept true now
keeps_painted client h left None answer now kept some steps = absurd cc
keeps_painted client h left (Some job) answer now kept some steps =
    let same : painted_job job ≡ job = cc in stays_painted job answer now h client steps.answer same

given_again : (now : Option Job) → now ≡ given_job (job_payload now)
given_again None = refl
given_again (Some job) = refl

-- so it is told
pub ends_told : (client : ℕ) (old new : Hosted) (o now : Option Job) (answer : Answer) → is_some o ≡ true
    → IfSome o (λ job. IsEnded client job old.machine new.machine now answer) → new.canvases ≡ old.canvases
    → Ends client old new o now (told_of (bare answer))
ends_told client old new None now answer some ended canvases = absurd cc
ends_told client old new (Some job) now answer some ended canvases = record {
  reply = with_job answer now;
  machine = ended.machine;
  may = ended.may;
  canvases = canvases;
  frame = given_again now;
  told = refl;
}
