use Rattle.wf_machine.proofs.Common.{IfSome, IsStep}
use Rattle.wf_calls.specs.declared.call.Call.TheVariants as call
use Rattle.wf_calls.specs.Places.{job_in}
use Rattle.wf_calls.specs.Replies.{with_job}
use Rattle.wf_machine.proofs.SettledActIsStep.{end_settled, ran_end}
use Rattle.wf_machine.proofs.machine.Machine.end.Goals as goal

-- the step that was made
made : (c : goal.After-act_end) → IfSome (job_in c.args.place.now)
    (λ j. IsStep c.args.self.now c.args.client (call.End j) c.act_end.new.self (with_job c.act_end.result (job_in c.act_end.new.place)))
made c = ran_end _ c.self.inside.parts _ _ _ (job_in c.args.place.now) c.self.view_is c.self.invariant c.act_end.ensures

pub invariant_of-self : goal.invariant_of-self
invariant_of-self c = end_settled _ _ _ _ _ c.requires (made c)

pub returns-clause-step : goal.returns-clause-step
returns-clause-step c = made c

pub returns-clause-lifetime : goal.returns-clause-lifetime
returns-clause-lifetime c = end_settled _ _ _ _ _ c.requires (made c)
