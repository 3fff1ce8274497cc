use Rattle.wf_play.proofs.Fronts.{as_many}
use Rattle.wf_play.proofs.top.play_print.Goals as goal

pub returns-clause-film : goal.returns-clause-film
returns-clause-film g c =
    rw c.without_order-in-Err-print.ensures.status
    (as_many g.O.Sink.took c.args.film.now c.print.new.k _ c.in-Err-print.stop.written c.in-Err-print.ensures.part)
