use Rattle.wf_turn.proofs.Common.{◌≡◌, ◌∙◌, true, sym, ap, subst, took, with_job}
use Rattle.wf_calls.specs.Places.{job_in}
use Rattle.wf_calls.specs.Requests.{call_of}
use Rattle.wf_turn.specs.Asked.{takes_job}
use Rattle.wf_turn.specs.Inside.{program_of}
use Rattle.wf_turn.proofs.AsksAreNextCalls.{step_answers, took_begun}
use Rattle.wf_turn.proofs.turning.take_begin.Goals as goal

pub returns : goal.returns
returns c =
    let p = program_of c.program.inside in
    let is : takes_job p ≡ true = subst (λ q. takes_job q ≡ true) (sym c.program.view_is) c.requires.begins in
    step_answers c.args.client c.args.machine.now c.begin-answer.new.self (call_of c.args.call.now) c.args.program.now c.took_begun.new.self
    c.entry.result (with_job c.begin-answer.result (job_in c.begin-answer.new.place)) c.begin-answer.ensures.step.after_is
    c.begin-answer.ensures.step.answer
    (c.took_begun.ensures ∙ took_begun p c.begin-answer.result (job_in c.begin-answer.new.place) is
    ∙ ap (λ q. took q (with_job c.begin-answer.result (job_in c.begin-answer.new.place))) c.program.view_is) c.entry.ensures
