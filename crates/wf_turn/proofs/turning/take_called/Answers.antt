use Rattle.wf_turn.proofs.Common.{bare}
use Rattle.wf_calls.specs.Requests.{call_of}
use Rattle.wf_turn.proofs.AsksAreNextCalls.{step_answers}
use Rattle.wf_turn.proofs.turning.take_called.Goals as goal

pub returns : goal.returns
returns c =
    step_answers c.args.client c.args.machine.now c.answer.new.self (call_of c.args.call.now) c.args.program.now c.took_answer.new.self
    c.entry.result (bare c.in-Some.answer) (rw c.in-Some.is at c.answer.ensures.after) (rw c.in-Some.is at c.answer.ensures.may)
    c.took_answer.ensures c.entry.ensures
