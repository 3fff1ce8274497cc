use Rattle.wf_show.proofs.FramesOfTheClock.{cut_later}
use Rattle.wf_show.proofs.clock.set_up.Goals as goal

pub returns-in-Err-clause-part : goal.returns-in-Err-clause-part
returns-in-Err-clause-part g c =
    let l = c.loop-clock in
    cut_later g.K.Sink.took c.args.writer.now.form c.args.k.now l.k c.step.new.k c.args.writer.now.written l.writer.written
    c.in-Err.stop.written c.args.clock.now l.clock c.step.new.clock l.invariant.1.all (rw l.invariant.0 at c.in-Err.ensures.part)
