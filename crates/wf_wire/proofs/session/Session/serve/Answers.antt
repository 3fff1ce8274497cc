use Rattle.std.proofs.Common.{arith}
use Rattle.wf_wire.proofs.HeardInARow.{closed_err, closed_ok}
use Rattle.wf_wire.proofs.session.Session.serve.Goals as goal

pub returns-in-Ok-clause-served : goal.returns-in-Ok-clause-served
returns-in-Ok-clause-served g c =
    closed_ok g.K.Sink.took _ _ _ _ _ _ _ _ _ c.discard.ensures c.from.result
    (omega (arith, c.from.ensures, c.left-most.ensures.left, c.left.ensures.left)) c.in-Ok.ensures.served

pub returns-in-Err-clause-served : goal.returns-in-Err-clause-served
returns-in-Err-clause-served g c =
    closed_err g.K.Sink.took _ _ _ _ _ _ _ _ _ c.discard.ensures c.in-Err.stop c.in-Err.ensures.served
