use Rattle.std.proofs.Common.{◌∷◌, ◌∙◌, length, ap, arith}
use Rattle.wf_check.proofs.Findings.{compared_whole, never, stopped_so}
use Rattle.wf_check.proofs.checking.check_film.Goals as goal

pub replay-requires : goal.replay-requires
replay-requires c = omega (arith, c.requires.1.is.few, ap length (c.order.ensures ∙ ap (λ f. f.order) c.requires.2))

pub returns-in-Ok : goal.returns-in-Ok
returns-in-Ok c =
    let bytes = c.args.bytes.now in
    compared_whole c.args.script.now bytes c.requires.0 c.requires.1 c.form.result c.order.result.now
    (c.form.ensures ∙ ap (λ f. f.form) c.requires.2) (c.order.ensures ∙ ap (λ f. f.order) c.requires.2)
    c.replay.new.k c.verdict.result (c.in-Ok.ensures.plays.0 (length bytes ∷ bytes) c.new-comparison.ensures.takes)
    c.in-Ok.ensures.plays.1 c.verdict.ensures

pub stopped-requires : goal.stopped-requires
stopped-requires c = never c.in-Err.stop c.in-Err.ensures.caused

pub returns-in-Err : goal.returns-in-Err
returns-in-Err c =
    stopped_so c.args.script.now c.args.bytes.now c.requires.0 c.requires.1 c.form.result c.order.result.now
    (c.form.ensures ∙ ap (λ f. f.form) c.requires.2) (c.order.ensures ∙ ap (λ f. f.order) c.requires.2)
    c.new-comparison.result c.replay.new.k c.in-Err.stop c.stopped.result c.in-Err.ensures.plays c.stopped.ensures
