use Rattle.wf_turn.proofs.Common.{with_canvas}
use Rattle.wf_calls.specs.declared.call.Call.TheVariants as call
use Rattle.wf_turn.proofs.AsksAreNextCalls.{end_asked, step_answers}
use Rattle.wf_turn.proofs.turning.take_asked.Goals as goal

pub returns-in-Call : goal.returns-in-Call
returns-in-Call c = rw c.in-Call.is c.take_called.ensures

pub returns-in-Acquire : goal.returns-in-Acquire
returns-in-Acquire c =
    rw c.in-Acquire.is
    (step_answers c.args.client c.args.machine.now c.acquire.new.self (call.Acquire c.in-Acquire.stream) c.args.program.now
    c.take_canvas.new.program c.take_canvas.result (with_canvas c.acquire.result)
    c.acquire.ensures.step.after_is c.acquire.ensures.step.answer
    c.take_canvas.ensures.now c.take_canvas.ensures.entry)

pub returns-in-Post : goal.returns-in-Post
returns-in-Post c =
    rw c.in-Post.is
    (step_answers c.args.client c.args.machine.now c.post.new.self (call.Post c.in-Post.canvas) c.args.program.now
    c.take_canvas-in-Post.new.program c.take_canvas-in-Post.result (with_canvas c.post.result)
    c.post.ensures.step.after_is c.post.ensures.step.answer
    c.take_canvas-in-Post.ensures.now c.take_canvas-in-Post.ensures.entry)

pub returns-in-Discard : goal.returns-in-Discard
returns-in-Discard c =
    rw c.in-Discard.is
    (step_answers c.args.client c.args.machine.now c.discard.new.self (call.Discard c.in-Discard.canvas) c.args.program.now
    c.take_canvas-in-Discard.new.program c.take_canvas-in-Discard.result (with_canvas c.discard.result)
    c.discard.ensures.step.after_is c.discard.ensures.step.answer
    c.take_canvas-in-Discard.ensures.now c.take_canvas-in-Discard.ensures.entry)

pub returns-in-End : goal.returns-in-End
returns-in-End c =
    rw c.in-End.is
    (end_asked _ c.args.client c.args.machine.now c.take_end.new.machine c.args.program.now c.take_end.new.program c.take_end.result
    c.args.program.now.job c.take_end.ensures)
