use Rattle.wf_machine.proofs.Common.{◌≡◌, ◌∙◌, true, false, refl, ap, subst, Call, is_out_of_memory, step}
use Rattle.wf_calls.specs.Creations.{is_creation}
use Rattle.wf_calls.specs.Requests.{brings}
use Rattle.wf_calls.specs.declared.call.Call.TheVariants as call
use Rattle.wf_model.specs.Step.{unmarked_step}
use Rattle.wf_machine.specs.Object.{IsAnswer}
use Rattle.wf_machine.proofs.machine.Machine.deny.Goals as goal

-- what brings something makes nothing
makes_nothing : (c : Call) → brings c ≡ true → is_creation c ≡ false
makes_nothing (call.Post canvas) some = refl
makes_nothing _ some = cc

-- so the mark says nothing to it
same : (c : goal.After-run_bringing)
    → step c.args.self.now c.args.client c.args.call (is_out_of_memory c.run_bringing.result.code)
    ≡ step c.args.self.now c.args.client c.args.call true
same c =
    unmarked_step c.args.self.now c.args.client c.args.call (is_out_of_memory c.run_bringing.result.code) true
    (makes_nothing c.args.call (rw c.in-None.is at c.request.ensures))

pub returns-in-None-clause-after : goal.returns-in-None-clause-after
returns-in-None-clause-after c = c.run_bringing.ensures.step.after_is ∙ ap (λ x. x.0) (same c)

pub returns-in-None-clause-may : goal.returns-in-None-clause-may
returns-in-None-clause-may c = subst (λ x. IsAnswer x.1 c.run_bringing.result) (same c) c.run_bringing.ensures.step.answer
