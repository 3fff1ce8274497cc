use Rattle.wf_wire.proofs.Calleds.{bare_called, can_be_painted, frame_called}
use Rattle.wf_wire.proofs.hearing.hear_call.Goals as goal

pub finish-requires-clause-paintable : goal.finish-requires-clause-paintable
finish-requires-clause-paintable g c =
    can_be_painted _ _ c.args.message.now c.args.call c.args.held.now _ _ c.make-reply.ensures.made c.make-reply.ensures.own
    (rw c.parts_of-canvas.ensures.canvas at c.keep.ensures) _ c.is_ok.ensures _ c.parts_of-canvas.ensures.job _
    c.number.ensures c.in-Some.job c.requires.own c.in-Some.is

pub returns-in-Some-clause-called : goal.returns-in-Some-clause-called
returns-in-Some-clause-called g c =
    frame_called _ _ c.args.message.now c.args.call c.args.held.now _ _ c.make-reply.ensures.made c.make-reply.ensures.own
    (rw c.parts_of-canvas.ensures.canvas at c.keep.ensures) _ c.is_ok.ensures _ c.parts_of-canvas.ensures.job _ c.number.ensures
    g.K.Sink.took _ _ _ _ c.in-Some.job c.in-Some.is c.finish.ensures.ended c.finish.ensures.own _ c.is_show.ensures c.finish.ensures.writes
    c.finish.ensures.few

pub returns-in-None-clause-called : goal.returns-in-None-clause-called
returns-in-None-clause-called g c =
    bare_called _ _ c.args.message.now c.args.call c.args.held.now _ _ c.make-reply.ensures.made c.make-reply.ensures.own
    (rw c.parts_of-canvas.ensures.canvas at c.keep.ensures) _ c.is_ok.ensures _ c.parts_of-canvas.ensures.job _ c.number-in-None.ensures
    g.K.Sink.took _ _ _ c.in-None.is c.put_answer.ensures.writes c.put_answer.ensures.few
