-- Frames that end, and streams that are destroyed.
use Rattle.std.proofs.Common.{◌≡◌, ◌∙◌, ℕ, true, false, Option, Some, None, is_some, refl, ap}
use Rattle.std.specs.Prelude.{IfNone, IfSome, IsTrue}
use Rattle.wf_calls.specs.Codes.{is_out_of_memory}
use Rattle.wf_calls.specs.Parts.{carries, part_of}
use Rattle.wf_calls.specs.Replies.{bare, with_job}
use Rattle.wf_calls.specs.declared.call.Call.TheVariants as call
use Rattle.wf_calls.specs.declared.call.Job.{Job}
use Rattle.wf_calls.specs.declared.reply.Answer.{Answer}
use Rattle.wf_calls.specs.declared.reply.Reply.{Reply}
use Rattle.wf_machine.specs.Object.{IsStep, after}
use Rattle.wf_model.specs.State.{State}
use Rattle.wf_model.specs.Step.{step, unmarked_step}
use Rattle.wf_serve.specs.Ticks.{ended}
use Rattle.wf_serve.proofs.Replies.{left_unmarked}

pub ended_so : (client : ℕ) (h left : State) (o : Option Job) (a : Answer) (back : Option Job) → is_some o ≡ true
    → IfSome o (λ j. IsStep h client (call.End j) left (with_job a back)) → left ≡ ended client o h
ended_so client h left None a back some steps = absurd cc
ended_so client h left (Some job) a back some steps = left_unmarked h left client (call.End job) (with_job a back) refl steps

pub none_ended : (client : ℕ) (h : State) (o : Option Job) → is_some o ≡ false → h ≡ ended client o h
none_ended client h None none = refl
none_ended client h (Some job) none = absurd cc

pub destroyed_so : (h left : State) (client stream : ℕ) (o : Option Answer)
    → IfNone o (IsTrue (carries (part_of (call.StreamDestroy stream))) × (left ≡ h))
    → IfSome o (λ a. left ≡ after h client (call.StreamDestroy stream) (bare a))
    → left ≡ (step h client (call.StreamDestroy stream) false).0
destroyed_so h left client stream None carried is = absurd (let no : false ≡ true = carried.0 in cc)
destroyed_so h left client stream (Some a) carried is =
    is ∙ ap (λ (x : State × Reply). x.0) (unmarked_step h client (call.StreamDestroy stream) (is_out_of_memory a.code) false refl)
