use Rattle.std.proofs.Common.{sym}
use Rattle.wf_wire.proofs.Nexts.{asks, asks_none, asks_nothing}
use Rattle.wf_wire.proofs.Sessions.{continues}
use Rattle.wf_wire.proofs.session.Session.next.Goals.{in-Ok-Some, in-Ok-None, in-Err}
use Rattle.wf_wire.proofs.session.Session.next.Goals as goal

pub returns-clause-message : goal.returns-clause-message
returns-clause-message g c = rw (sym c.self.view_is) (elim c.match-heard.branch [
  | in-Ok-Some w ↦
      rw (w.result-is, w.message_of.ensures.message, w.deref.ensures.0)
      (asks _ _ _ _ _ (rw w.in-Ok-Some.field-0-is at w.in-Ok-Some.ensures.finds))
  | in-Ok-None w ↦ rw w.result-is (asks_none _ _ _ _ (rw w.in-Ok-None.field-0-is at w.in-Ok-None.ensures.finds))
  | in-Err w ↦ rw w.result-is (asks_nothing _ _ _ _ _ w.in-Err.ensures.finds)
])

pub returns-clause-session : goal.returns-clause-session
returns-clause-session g c = continues _ _ _ _ _ (returns-clause-message g c)
