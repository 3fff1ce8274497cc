use Rattle.wf_turn.proofs.Common.{◌≡◌, subst, arith, common_steps, IsPut, context_call, element_call, handle}
use Rattle.wf_calls.specs.Requests.{call_of}
use Rattle.wf_turn.proofs.program.Program.context_call.Goals as goal

pub returns-in_default : goal.returns-in_default
returns-in_default c =
    let is : element_call (handle c.args.self.now) c.args.verb.now ≡ context_call (handle c.args.self.now) c.args.verb.now =
    grind (arith, common_steps) in
    subst (λ o. IsPut o (call_of c.element_call.new.call) c.element_call.result) is c.element_call.ensures
