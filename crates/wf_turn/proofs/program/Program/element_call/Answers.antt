use Rattle.wf_turn.proofs.Common.{◌≡◌, subst, arith, common_steps, IsPut, element_call, handle}
use Rattle.wf_turn.specs.Calls.{source_call}
use Rattle.wf_calls.specs.Requests.{call_of}
use Rattle.wf_turn.proofs.program.Program.element_call.Goals as goal

pub returns-in_default : goal.returns-in_default
returns-in_default c =
    let is : source_call (handle c.args.self.now) c.args.verb.now ≡ element_call (handle c.args.self.now) c.args.verb.now =
    grind (arith, common_steps) in
    subst (λ o. IsPut o (call_of c.source_call.new.call) c.source_call.result) is c.source_call.ensures
