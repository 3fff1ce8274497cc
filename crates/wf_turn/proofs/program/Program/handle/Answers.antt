use Rattle.wf_turn.proofs.Common.{◌∙◌, Some, ap, sym, unwrap_or, program_of, handle}
use Rattle.wf_turn.proofs.Handles.{learned_handle, own_handle}
use Rattle.wf_turn.proofs.program.Program.handle.Goals as goal

pub returns-in-Some-value : goal.returns-in-Some-value
returns-in-Some-value c =
    let p = program_of c.self.inside in
    sym (ap (λ o. handle c.args.self.now o) c.in-Some.is
    ∙ ap (λ q. handle q (Some c.in-Some.name)) (sym c.self.view_is)
    ∙ own_handle p c.in-Some.name c.in-Some-value.value (sym c.value.ensures ∙ c.in-Some-value.is))

pub returns-in-None : goal.returns-in-None
returns-in-None c =
    let p = program_of c.self.inside in
    c.unwrap_or.ensures ∙ ap (λ o. unwrap_or o 0) c.value-in-None.ensures
    ∙ sym (ap (λ o. handle c.args.self.now o) c.in-Some.is
    ∙ ap (λ q. handle q (Some c.in-Some.name)) (sym c.self.view_is)
    ∙ learned_handle p c.in-Some.name (sym c.value.ensures ∙ c.in-None.is))
