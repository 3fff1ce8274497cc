use Rattle.wf_machine.proofs.Common.{true, subst, IsSettled}
use Rattle.wf_calls.specs.Requests.{call_of}
use Rattle.wf_machine.specs.Object.{IsMarkedStep}
use Rattle.wf_machine.proofs.SettledActIsStep.{marked_acts, marked_stepped}
use Rattle.wf_machine.proofs.machine.Machine.refuse.Goals as goal

-- the step that was made
made : (c : goal.After-deny) → IsMarkedStep true c.args.self.now c.args.client (call_of c.args.call.now) c.deny.new.self c.deny.result
made c =
    marked_stepped true _ _ _ _ c.deny.result
    (marked_acts true _ c.self.inside.parts c.self.view_is _ _ c.deny.result c.deny.ensures)
    (subst IsSettled c.self.view_is c.self.invariant)

pub invariant_of-self : goal.invariant_of-self
invariant_of-self c = (made c).settled

pub returns-clause-step : goal.returns-clause-step
returns-clause-step c = made c

pub returns-clause-lifetime : goal.returns-clause-lifetime
returns-clause-lifetime c = (made c).settled
