use Rattle.wf_script.proofs.Additions.{adds_both, waits}
use Rattle.wf_script.proofs.text.Text.add.Goals as goal

pub returns-clause-adds : goal.returns-clause-adds
returns-clause-adds g c =
    adds_both g.K.Sink.took g.K.Sink.faults _ _ _ _ _ _ _ _ c.make_room.ensures.adds
    (waits g.K.Sink.took g.K.Sink.faults _ _ _ _ c.gather.ensures.waiting c.gather.ensures.written c.gather.ensures.stopped)
