use Rattle.wf_machine.proofs.Common.{subst, IfSome, IsStep}
use Rattle.wf_calls.specs.declared.call.Call.TheVariants as call
use Rattle.wf_calls.specs.Places.{job_in}
use Rattle.wf_calls.specs.Replies.{with_job}
use Rattle.wf_machine.proofs.SettledActIsStep.{ran_end}
use Rattle.wf_machine.proofs.machine.Machine.run_end.Goals as goal

-- the step that was made, by the Job that was put
made : (c : goal.After-with_job) → IsStep c.args.self.now c.args.client (call.End c.args.job) c.act_end-answer.new.self
    (with_job c.act_end-answer.result (job_in c.act_end-answer.new.place))
made c =
    let reply = with_job c.act_end-answer.result (job_in c.act_end-answer.new.place) in
    subst (λ o. IfSome o (λ j. IsStep c.args.self.now c.args.client (call.End j) c.act_end-answer.new.self reply)) c.put.ensures
    (ran_end _ c.self.inside.parts _ _ _ (job_in c.put.new.self) c.self.view_is c.self.invariant c.act_end-answer.ensures)

pub invariant_of-self : goal.invariant_of-self
invariant_of-self c = (made c).settled

pub returns : goal.returns
returns c = record { step = rw (c.with_job.ensures, c.take.ensures.job) (made c) }
