use Rattle.wf_turn.proofs.Common.{◌≡◌, ◌∙◌, true, sym, ap, subst, took, with_job, IfSome, IsStep}
use Rattle.wf_calls.specs.declared.call.Call.TheVariants as call
use Rattle.wf_calls.specs.Places.{job_in}
use Rattle.wf_turn.specs.Asked.{is_ending}
use Rattle.wf_turn.specs.Inside.{program_of}
use Rattle.wf_turn.proofs.AsksAreNextCalls.{end_answers, took_ended}
use Rattle.wf_turn.proofs.turning.take_end.Goals as goal

pub returns : goal.returns
returns c =
    let p = program_of c.program.inside in
    let is : is_ending p ≡ true = subst (λ q. is_ending q ≡ true) (sym c.program.view_is) c.requires.ends in
    let reply = with_job c.end-answer.result (job_in c.end-answer.new.place) in
    end_answers c.args.client c.args.machine.now c.end-answer.new.self c.args.program.now c.took_answer.new.self c.entry.result reply
    c.args.program.now.job
    (subst (λ q. IfSome q.job (λ j. IsStep c.args.machine.now c.args.client (call.End j) c.end-answer.new.self reply)) c.program.view_is
    c.end-answer.ensures.step)
    (c.took_answer.ensures ∙ took_ended p c.end-answer.result (job_in c.end-answer.new.place) reply is
    ∙ ap (λ q. took q reply) c.program.view_is)
    c.entry.ensures
