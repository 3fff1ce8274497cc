use Rattle.wf_play.proofs.FoundSame.{same_if_done}
use Rattle.wf_play.proofs.top.play_by.Goals as goal

pub returns-then-asked-clause-checked : goal.returns-then-asked-clause-checked
returns-then-asked-clause-checked g c =
    same_if_done g.O.Sink.took c.args.film.now c.threaded_by.new.k c.args.asked.form c.args.script.now c.threaded_by.result
    c.threaded_by.ensures.plays c.threaded_by.ensures.stands

pub returns-else-asked-clause-checked : goal.returns-else-asked-clause-checked
returns-else-asked-clause-checked g c =
    same_if_done g.O.Sink.took c.args.film.now c.serial_by.new.k c.args.asked.form c.args.script.now c.serial_by.result
    c.serial_by.ensures.plays c.serial_by.ensures.stands
