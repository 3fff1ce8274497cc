use Rattle.wf_wire.proofs.HeardInARow.{discarded}
use Rattle.wf_wire.proofs.serving.discard.Goals as goal

pub returns-in-Some : goal.returns-in-Some
returns-in-Some g c =
    discarded c.args.pass.now c.make-reply.new.pass c.args.held c.in-Some.canvas c.make-reply.result c.in-Some.is c.make-reply.ensures.made
    c.make-reply.ensures.own
