use Rattle.wf_machine.proofs.Common.{IsStep}
use Rattle.wf_calls.specs.declared.call.Call.TheVariants as call
use Rattle.wf_calls.specs.Replies.{with_canvas}
use Rattle.wf_machine.proofs.SettledActIsStep.{ran}
use Rattle.wf_machine.proofs.machine.Machine.acquire.Goals as goal

-- the step that was made
made : (c : goal.After-act_acquire) → IsStep c.args.self.now c.args.client (call.Acquire c.args.stream) c.act_acquire.new.self
    (with_canvas c.act_acquire.result)
made c = ran _ _ c.self.inside.parts _ _ _ _ c.self.view_is c.self.invariant c.act_acquire.ensures

pub invariant_of-self : goal.invariant_of-self
invariant_of-self c = (made c).settled

pub returns-clause-step : goal.returns-clause-step
returns-clause-step c = made c

pub returns-clause-lifetime : goal.returns-clause-lifetime
returns-clause-lifetime c = (made c).settled
