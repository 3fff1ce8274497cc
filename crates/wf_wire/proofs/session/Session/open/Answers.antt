use Rattle.wf_wire.proofs.Sessions.{begins, begins_not}
use Rattle.wf_wire.proofs.session.Session.open.Goals as goal

pub returns-in-Ok-clause-session : goal.returns-in-Ok-clause-session
returns-in-Ok-clause-session g c = begins _ _ _ c.in-Ok.ensures.finds

pub returns-in-Err-clause-session : goal.returns-in-Err-clause-session
returns-in-Err-clause-session g c = begins_not _ _ _ _ c.in-Err.ensures.finds
