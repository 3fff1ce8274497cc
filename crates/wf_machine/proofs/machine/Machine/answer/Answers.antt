use Rattle.wf_calls.specs.Requests.{call_of}
use Rattle.wf_machine.proofs.SettledActIsStep.{IsAnswered, answered}
use Rattle.wf_machine.proofs.machine.Machine.answer.Goals as goal

-- the step that was made, or none
made : (c : goal.After-act_plain)
    → IsAnswered c.args.self.now c.args.client (call_of c.args.call.now) c.act_plain.new.self c.act_plain.result
made c = answered _ c.self.inside.parts _ _ _ c.act_plain.result c.self.view_is c.self.invariant c.act_plain.ensures

pub invariant_of-self : goal.invariant_of-self
invariant_of-self c = (made c).settled

pub returns-clause-carries : goal.returns-clause-carries
returns-clause-carries c = (made c).carried

pub returns-clause-after : goal.returns-clause-after
returns-clause-after c = (made c).after_is

pub returns-clause-may : goal.returns-clause-may
returns-clause-may c = (made c).may

pub returns-clause-lifetime : goal.returns-clause-lifetime
returns-clause-lifetime c = (made c).settled

pub returns-clause-refused : goal.returns-clause-refused
returns-clause-refused c = (made c).refused
