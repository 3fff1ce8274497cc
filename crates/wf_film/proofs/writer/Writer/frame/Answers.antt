use Rattle.std.proofs.lemmas.Result.{IfErr-weaker, err_from_is_err_and}
use Rattle.wf_io.specs.Parts.{stops_early, stops_late}
use Rattle.wf_film.specs.Film.{frame_head, frame_of}
use Rattle.wf_film.proofs.writer.Writer.frame.Goals as goal

pub returns-in_err-put_head-clause-part : goal.returns-in_err-put_head-clause-part
returns-in_err-put_head-clause-part g c =
    let head = frame_head c.args.self.now.form (frame_of c.args.port c.args.tick c.args.begin c.args.image.now) in
    let p = err_from_is_err_and c.from_residual.result c.from_residual.ensures.1 in
    rw (p.1, p.2)
    (stops_early g.K.Sink.took _ _ _ head c.args.image.now.bytes _ c.in_err-put_head.ensures.part)

pub returns-clause-part : goal.returns-clause-part
returns-clause-part g c =
    let head = frame_head c.args.self.now.form (frame_of c.args.port c.args.tick c.args.begin c.args.image.now) in
    IfErr-weaker c.put.result _ _
    (λ stop part. stops_late g.K.Sink.took _ _ _ _ _ head c.args.image.now.bytes stop.written
    c.in_ok-put_head.ensures.all c.in_ok-put_head.ensures.written (rw c.bytes.ensures.value at part))
    c.put.ensures.part
