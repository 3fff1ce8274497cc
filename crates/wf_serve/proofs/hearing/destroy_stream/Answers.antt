use Rattle.wf_serve.proofs.Ended.{destroyed_so}
use Rattle.wf_serve.proofs.hearing.destroy_stream.Goals as goal

pub returns : goal.returns
returns c =
    destroyed_so c.args.machine.now c.answer-answer.new.self c.args.client c.args.stream c.answer-answer.result
    c.answer-answer.ensures.carries c.answer-answer.ensures.after
