use Rattle.wf_machine.proofs.Common.{IsStep}
use Rattle.wf_calls.specs.Places.{job_in}
use Rattle.wf_calls.specs.Replies.{with_job}
use Rattle.wf_calls.specs.Requests.{call_of}
use Rattle.wf_machine.proofs.SettledActIsStep.{ran}
use Rattle.wf_machine.proofs.machine.Machine.run_begin.Goals as goal

-- the step that was made
made : (c : goal.After-with_job) → IsStep c.args.self.now c.args.client (call_of c.args.call.now) c.act_begin-answer.new.self
    (with_job c.act_begin-answer.result (job_in c.act_begin-answer.new.place))
made c = ran _ _ c.self.inside.parts _ _ _ _ c.self.view_is c.self.invariant c.act_begin-answer.ensures

pub invariant_of-self : goal.invariant_of-self
invariant_of-self c = (made c).settled

pub returns : goal.returns
returns c = record { step = rw (c.with_job.ensures, c.take.ensures.job) (made c) }
