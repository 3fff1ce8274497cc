use Rattle.wf_wire.proofs.Puttings.{body_stops}
use Rattle.wf_wire.proofs.answering.put_shown.Goals as goal

pub returns-in-Err-clause-writes : goal.returns-in-Err-clause-writes
returns-in-Err-clause-writes g c =
    body_stops g.K.Sink.took _ _ _ c.in_ok-n.n c.head_of.result c.args.image.now.bytes _ c.in-Err.stop.written c.head_of.ensures.head
    c.in_ok-n.ensures.writes.1 c.in_ok-n.ensures.writes.0 (rw c.bytes-pixels.ensures.value at c.in-Err.ensures.writes)
