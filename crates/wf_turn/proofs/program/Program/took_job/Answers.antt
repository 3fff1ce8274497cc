use Rattle.wf_turn.proofs.Common.{◌≡◌, ◌∙◌, Some, true, sym, ap, subst, took, with_job}
use Rattle.wf_calls.specs.Places.{job_in}
use Rattle.wf_turn.specs.Asked.{takes_job}
use Rattle.wf_turn.specs.Inside.{program_of}
use Rattle.wf_turn.proofs.AsksAreNextCalls.{took_begun, took_other}
use Rattle.wf_turn.proofs.program.Program.took_job.Goals as goal

pub returns-then-takes_job : goal.returns-then-takes_job
returns-then-takes_job c =
    let p = program_of c.self.inside in
    let is : takes_job p ≡ true = subst (λ q. takes_job q ≡ true) (sym c.self.view_is) (sym c.takes_job.ensures ∙ c.if-takes_job.true) in
    c.took_begun.ensures ∙ took_begun p c.args.answer (job_in c.put.new.self) is
    ∙ ap (λ o. took p (with_job c.args.answer o)) c.put.ensures
    ∙ ap (λ q. took q (with_job c.args.answer (Some c.args.job))) c.self.view_is

pub returns-else-takes_job : goal.returns-else-takes_job
returns-else-takes_job c =
    c.took_answer.ensures ∙ took_other c.args.self.now c.args.answer c.args.job (sym c.takes_job.ensures ∙ c.if-takes_job.false)
