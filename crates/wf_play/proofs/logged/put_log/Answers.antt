use Rattle.wf_play.proofs.Fronts.{as_many}
use Rattle.wf_play.proofs.logged.put_log.Goals as goal

pub returns-in-Err-clause-film : goal.returns-in-Err-clause-film
returns-in-Err-clause-film g c =
    as_many g.O.Sink.took c.args.film.now c.write.new.k c.args.log.now c.in-Err.stop.written c.in-Err.ensures.part
