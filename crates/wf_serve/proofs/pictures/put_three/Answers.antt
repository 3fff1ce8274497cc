use Rattle.std.proofs.Common.{◌++◌}
use Rattle.wf_serve.proofs.Puttings.{first_front, writes_after}
use Rattle.wf_serve.proofs.pictures.put_three.Goals as goal

pub returns-in-Ok-clause-writes : goal.returns-in-Ok-clause-writes
returns-in-Ok-clause-writes g c =
    writes_after g.K.Sink.took c.args.out.now c.put.new.out c.put_two.new.out c.args.a.now (c.args.b.now ++ c.args.c.now)
    c.put_two.result c.in-Ok.ensures.writes c.put_two.ensures.writes

pub returns-in-Err-clause-writes : goal.returns-in-Err-clause-writes
returns-in-Err-clause-writes g c =
    first_front g.K.Sink.took c.args.out.now c.put.new.out c.args.a.now (c.args.b.now ++ c.args.c.now) c.in-Err.ensures.writes
