use Rattle.wf_turn.proofs.Common.{◌≡◌, subst, arith, common_steps, IsPut, handle}
use Rattle.wf_turn.specs.Calls.{display_call, source_call}
use Rattle.wf_calls.specs.Requests.{call_of}
use Rattle.wf_turn.proofs.program.Program.source_call.Goals as goal

pub returns-in_default : goal.returns-in_default
returns-in_default c =
    let is : display_call (handle c.args.self.now) c.args.verb.now ≡ source_call (handle c.args.self.now) c.args.verb.now =
    grind (arith, common_steps) in
    subst (λ o. IsPut o (call_of c.display_call.new.call) c.display_call.result) is c.display_call.ensures
