use Rattle.wf_play.proofs.Fronts.{cut_many}
use Rattle.wf_play.proofs.top.play_film.Goals as goal

pub returns-in-Err-WriteFault-clause-film : goal.returns-in-Err-WriteFault-clause-film
returns-in-Err-WriteFault-clause-film g c =
    cut_many g.O.Sink.took c.args.film.now c.play_script.new.film c.args.asked.form _ _ c.in-Err-WriteFault.written
    (rw c.in-Err-WriteFault.field-0-is at c.in-Err-WriteFault.ensures.plays)
