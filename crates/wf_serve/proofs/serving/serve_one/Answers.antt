use Rattle.std.proofs.Common.{subst}
use Rattle.wf_serve.specs.Putting.{Writes}
use Rattle.wf_serve.proofs.Hearings.{message_cut, message_heard, pictures_cut}
use Rattle.wf_serve.proofs.serving.serve_one.Goals as goal

pub returns-in-Ok-clause-heard : goal.returns-in-Ok-clause-heard
returns-in-Ok-clause-heard g c =
    let one = c.in-Ok.ensures.heard in
    message_heard g.K.Sink.took g.F.Sink.took c.args.out.now c.put_answers.new.out c.args.frames.now c.hear.new.frames
    c.parts_of-client.result.0 c.parts_of-client.result.1 c.parts_of-client.result.2.now c.args.content.now
    c.parts_of-client.ensures c.args.core.now c.hear.new.self
    _ one.0 one.1 one.2 c.put_answers.result
    (subst (λ xs. Writes g.K.Sink.took c.args.out.now c.put_answers.new.out xs c.put_answers.result) c.bytes.ensures
    c.put_answers.ensures.writes)

pub returns-in-Ok-clause-cut : goal.returns-in-Ok-clause-cut
returns-in-Ok-clause-cut g c =
    let one = c.in-Ok.ensures.heard in
    message_cut g.K.Sink.took g.F.Sink.took c.args.out.now c.put_answers.new.out c.args.frames.now c.hear.new.frames
    c.parts_of-client.result.0 c.parts_of-client.result.1 c.parts_of-client.result.2.now c.args.content.now
    c.parts_of-client.ensures c.args.core.now c.hear.new.self
    _ one.0 one.1 one.2 c.put_answers.result
    (subst (λ xs. Writes g.K.Sink.took c.args.out.now c.put_answers.new.out xs c.put_answers.result) c.bytes.ensures
    c.put_answers.ensures.writes)

pub returns-in-Err-clause-cut : goal.returns-in-Err-clause-cut
returns-in-Err-clause-cut g c =
    let one = c.in-Err.ensures.cut in
    pictures_cut g.K.Sink.took g.F.Sink.took c.args.out.now c.args.out.now c.args.frames.now c.hear.new.frames
    c.parts_of-client.result.0 c.parts_of-client.result.1 c.parts_of-client.result.2.now c.args.content.now
    c.parts_of-client.ensures c.args.core.now one.0 one.1
    one.2 one.3 one.4
