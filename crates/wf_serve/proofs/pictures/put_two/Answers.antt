use Rattle.wf_serve.proofs.Puttings.{first_front, writes_after}
use Rattle.wf_serve.proofs.pictures.put_two.Goals as goal

pub returns-in-Ok-clause-writes : goal.returns-in-Ok-clause-writes
returns-in-Ok-clause-writes g c =
    writes_after g.K.Sink.took c.args.out.now c.put.new.out c.put-in-Ok.new.out c.args.a.now c.args.b.now c.put-in-Ok.result
    c.in-Ok.ensures.writes c.put-in-Ok.ensures.writes

pub returns-in-Err-clause-writes : goal.returns-in-Err-clause-writes
returns-in-Err-clause-writes g c =
    first_front g.K.Sink.took c.args.out.now c.put.new.out c.args.a.now c.args.b.now c.in-Err.ensures.writes
