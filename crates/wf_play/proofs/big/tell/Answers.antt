use Rattle.wf_play.proofs.Fronts.{as_many}
use Rattle.wf_play.proofs.big.tell.Goals as goal

pub returns-in-Err-clause-film : goal.returns-in-Err-clause-film
returns-in-Err-clause-film g c =
    as_many g.O.Sink.took c.args.sink.now c.write_all.new.k _ c.in-Err.stop.written c.in-Err.ensures.part
