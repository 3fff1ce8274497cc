use Rattle.std.proofs.Common.{◌∙◌, None, ap, cond, refl}
use Rattle.wf_calls.specs.Codes.{is_ok_code}
use Rattle.wf_calls.specs.Replies.{with_canvas}
use Rattle.wf_wire.specs.Asked.{moves_canvas}
use Rattle.wf_wire.proofs.Calleds.{bare_called, given_again, no_job}
use Rattle.wf_wire.proofs.hearing.hear_small.Goals as goal

pub returns-clause-called : goal.returns-clause-called
returns-clause-called g c =
    let answered = c.perform_when-canvas.result in
    bare_called _ _ c.args.message.now c.args.call c.args.held.now _ (with_canvas answered)
    c.perform_when-canvas.ensures.made c.perform_when-canvas.ensures.own
    (c.keep.ensures ∙ ap (λ given. cond (moves_canvas c.args.message.now) given c.args.held.now) (given_again answered.1))
    (is_ok_code answered.0.code) refl None (no_job _ answered.1) _ c.number.ensures
    g.K.Sink.took _ _ _ refl c.put_answer.ensures.writes c.put_answer.ensures.few
