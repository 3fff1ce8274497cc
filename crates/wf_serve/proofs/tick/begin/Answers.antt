use Rattle.std.proofs.Common.{◌∙◌, sym}
use Rattle.wf_calls.specs.Places.{job_in}
use Rattle.wf_calls.specs.Requests.{call_of}
use Rattle.wf_serve.proofs.Replies.{begun_left, begun_none, begun_told}
use Rattle.wf_serve.proofs.tick.begin.Goals as goal

pub returns-else-is_ok-clause-machine : goal.returns-else-is_ok-clause-machine
returns-else-is_ok-clause-machine c =
    begun_left c.args.machine.now c.begin-answer.new.self c.args.client (call_of c.args.request.now) c.begin-answer.result
    (job_in c.begin-answer.new.place) c.requires.begins c.begin-answer.ensures.step

pub returns-else-is_ok-clause-told : goal.returns-else-is_ok-clause-told
returns-else-is_ok-clause-told c =
    c.of-told.ensures
    ∙ begun_told c.args.machine.now c.begin-answer.new.self c.args.client (call_of c.args.request.now) c.begin-answer.result
    (job_in c.begin-answer.new.place) c.requires.begins c.begin-answer.ensures.step

pub returns-else-is_ok-clause-frame : goal.returns-else-is_ok-clause-frame
returns-else-is_ok-clause-frame c =
    c.clear.ensures
    ∙ begun_none c.args.machine.now c.begin-answer.new.self c.args.client (call_of c.args.request.now) c.begin-answer.result
    (job_in c.begin-answer.new.place) c.requires.begins c.begin-answer.ensures.step (sym c.is_ok.ensures ∙ c.if-is_ok.false)
