use Rattle.std.proofs.Common.{subst}
use Rattle.std.specs.Prelude.{flat_map}
use Rattle.wf_film.specs.Film.{frame_bytes}
use Rattle.wf_io.specs.Bytes.{PutsPart}
use Rattle.wf_turn.specs.Playing.{job_frames}
use Rattle.wf_show.proofs.FramesOfTheClock.{asks_again, cut, sets_both, still_inside}
use Rattle.wf_show.proofs.clock.step.Goals as goal

pub advance-requires-in-Err-clause-more : goal.advance-requires-in-Err-clause-more
advance-requires-in-Err-clause-more g c κs within =
    asks_again c.args.desk.now.id c.args.clock.now c.advance.new.clock c.requires.clock
    (rw c.if-advance.true at c.advance.ensures.advanced) c.requires.more

pub returns-in-Err-clause-setting : goal.returns-in-Err-clause-setting
returns-in-Err-clause-setting g c =
    let one = rw c.if-advance.true at c.advance.ensures.advanced in
    sets_both c.args.clock.now c.advance.new.clock c.advance-in-Err.new.clock
    (still_inside c.args.desk.now.id c.args.clock.now c.advance.new.clock c.requires.clock one)
    c.advance.ensures.setting c.advance-in-Err.ensures.setting

pub returns-in-Err-clause-part : goal.returns-in-Err-clause-part
returns-in-Err-clause-part g c =
    let one = rw c.if-advance.true at c.advance.ensures.advanced in
    let form = c.args.writer.now.form in
    let was = c.args.writer.now.written in
    let part = subst (λ n. PutsPart g.K.Sink.took c.args.k.now c.put_frame.new.k was
    (flat_map (frame_bytes form) (job_frames n c.advance.new.clock.program)) c.in-Err.stop.written) c.place-begin.ensures.place
    c.in-Err.ensures.part in
    cut g.K.Sink.took form c.args.desk.now.id c.args.k.now c.put_frame.new.k was c.in-Err.stop.written c.args.clock.now c.advance.new.clock
    c.advance-in-Err.new.clock c.advance-in-Err.result c.requires.clock c.advance.ensures.clock one
    c.advance-in-Err.ensures.advanced part
