use Rattle.wf_machine.proofs.Common.{rules, sym, ap, subst, to_z-of_z}
use mir.Syntax.{w64}
use mir.Val.{SFits}
use Rattle.wf_calls.specs.Requests.{call_of}
use Rattle.wf_core.specs.Steps.{IsOfPort}
use Rattle.wf_machine.proofs.parts.Parts.screen_of.Goals as goal

pub returns-in-ScreenContext-clause-within : goal.returns-in-ScreenContext-clause-within
returns-in-ScreenContext-clause-within c =
    let p : SFits w64 c.in-ScreenContext.port = search rules in
    subst (λ x. IsOfPort x c.declared_screen.result) (sym (ap call_of c.in-ScreenContext.is))
    (rw (to_z-of_z p) at c.declared_screen.ensures.within)
