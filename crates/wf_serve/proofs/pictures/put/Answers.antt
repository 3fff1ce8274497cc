use Rattle.wf_serve.proofs.Puttings.{writes_so}
use Rattle.wf_serve.proofs.pictures.put.Goals as goal

pub returns-clause-writes : goal.returns-clause-writes
returns-clause-writes g c =
    writes_so g.K.Sink.took c.args.out.now c.write_all.new.k c.args.bytes.now c.write_all.result c.write_all.ensures.all
    c.write_all.ensures.part
