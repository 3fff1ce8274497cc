use Rattle.wf_serve.proofs.Puttings.{part_front}
use Rattle.wf_serve.proofs.serving.put_answers.Goals as goal

pub returns-in-Err-clause-writes : goal.returns-in-Err-clause-writes
returns-in-Err-clause-writes g c =
    part_front g.K.Sink.took c.args.out.now c.write_all.new.k c.args.bytes.now c.in-Err.field-0.written c.in-Err.ensures.part
