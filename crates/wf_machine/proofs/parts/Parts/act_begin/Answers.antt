use Rattle.wf_machine.proofs.Common.{rules, ap, to_z-of_z, act}
use Rattle.wf_calls.specs.Parts.{no_register, of_device}
use Rattle.wf_calls.specs.Places.{job_in}
use Rattle.wf_calls.specs.Replies.{with_job}
use Rattle.wf_calls.specs.Requests.{call_of}
use Rattle.wf_model.specs.Frames.{begin_composed, begin_next, started}
use mir.Syntax.{w64}
use mir.Val.{SFits}
use Rattle.wf_calls.specs.declared.call.Call.TheVariants as call
use Rattle.wf_machine.proofs.ActsAreTheModels.{as_begin, settled_left}
use Rattle.wf_machine.proofs.parts.Parts.act_begin.Goals as goal

pub returns-in-BeginNext : goal.returns-in-BeginNext
unfolding act
returns-in-BeginNext c =
    as_begin _ _ _ (call.BeginNext c.in-BeginNext.after) _ (ap call_of c.in-BeginNext.is)
    (settled_left (started no_register c.args.self.now (begin_next c.in-BeginNext.after c.args.self.now)) _ c.begin_next.ensures.left
    c.begin_next.ensures.settled) c.begin_next.ensures.answer

pub returns-in-BeginPort : goal.returns-in-BeginPort
unfolding act
returns-in-BeginPort c =
    let p : SFits w64 c.in-BeginPort.port = search rules in
    let begun = rw (to_z-of_z p) at c.begin_port.ensures in
    as_begin _ _ _ (call.BeginPort c.in-BeginPort.port)
    (with_job c.begin_port.result (job_in c.begin_port.new.place)) (ap call_of c.in-BeginPort.is) begun.left begun.answer

pub returns-in-BeginContext : goal.returns-in-BeginContext
unfolding act
returns-in-BeginContext c =
    as_begin _ _ _ (call.BeginContext c.in-BeginContext.device c.in-BeginContext.context) _ (ap call_of c.in-BeginContext.is)
    (settled_left (started (of_device c.in-BeginContext.device) c.args.self.now
    (begin_composed c.in-BeginContext.device c.in-BeginContext.context c.args.self.now)) _ c.begin_composed.ensures.left
    c.begin_composed.ensures.settled) c.begin_composed.ensures.answer
