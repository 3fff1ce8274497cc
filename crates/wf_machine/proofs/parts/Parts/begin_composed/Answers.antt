use Rattle.wf_machine.proofs.Common.{ap, subst, ◌∙◌, sym, state_of, IsAnswer, offered}
use Rattle.wf_calls.specs.Parts.{of_device}
use Rattle.wf_calls.specs.Places.{job_in}
use Rattle.wf_calls.specs.Replies.{with_job}
use Rattle.wf_model.specs.Frames.{begin_composed}
use Rattle.wf_machine.proofs.ContextFrames.{recorded_is, same_answer}
use Rattle.wf_machine.proofs.parts.Parts.begin_composed.Goals as goal

pub returns-then-not-is_ok-clause-left : goal.returns-then-not-is_ok-clause-left
returns-then-not-is_ok-clause-left c =
    let a = c.args in
    let answer = with_job c.compose-answer.result (job_in c.compose-answer.new.place) in
    ap (λ core. record (state_of c.self.inside) { core = core }) c.record.ensures.recorded
    ∙ ap (offered (of_device a.device) answer.code) (c.self.view_is ∙ c.compose-answer.ensures.left)
    ∙ recorded_is a.device a.self.now (begin_composed a.device a.context a.self.now) answer c.compose-answer.ensures.answer
    (sym c.is_ok.ensures ∙ c.if-not-is_ok.true)

pub returns-then-not-is_ok-clause-answer : goal.returns-then-not-is_ok-clause-answer
returns-then-not-is_ok-clause-answer c =
    let a = c.args in
    subst (λ x. IsAnswer x (with_job c.compose-answer.result (job_in c.compose-answer.new.place)))
    (same_answer a.device a.self.now (begin_composed a.device a.context a.self.now))
    c.compose-answer.ensures.answer
