use Rattle.std.proofs.Common.{◌∙◌, sym}
use Rattle.wf_calls.specs.Places.{job_in}
use Rattle.wf_serve.proofs.Ended.{ended_so, none_ended}
use Rattle.wf_serve.proofs.tick.end.Goals as goal
use Rattle.wf_serve.proofs.tick.end.Goals.{then-is_held, else-is_held}

pub returns-clause-machine : goal.returns-clause-machine
returns-clause-machine c = elim c.if-is_held.branch [
  | then-is_held w ↦ w.machine-is
      ∙ ended_so c.args.client c.args.machine.now w.end-answer.new.self (job_in c.args.place.now) w.end-answer.result
      (job_in w.end-answer.new.place) (sym c.is_held.ensures ∙ w.if-is_held.true) w.end-answer.ensures.step
  | else-is_held w ↦ w.machine-is
      ∙ none_ended c.args.client c.args.machine.now (job_in c.args.place.now) (sym c.is_held.ensures ∙ w.if-is_held.false)
]
