use Rattle.wf_turn.proofs.Common.{◌≡◌, subst, arith, common_steps, IsPut, context_call, plain_call, handle}
use Rattle.wf_calls.specs.Requests.{call_of}
use Rattle.wf_turn.proofs.program.Program.plain_call.Goals as goal

pub returns-in_default : goal.returns-in_default
returns-in_default c =
    let is : context_call (handle c.args.self.now) c.args.verb.now ≡ plain_call (handle c.args.self.now) c.args.verb.now =
    grind (arith, common_steps) in
    subst (λ o. IsPut o (call_of c.context_call.new.call) c.context_call.result) is c.context_call.ensures
