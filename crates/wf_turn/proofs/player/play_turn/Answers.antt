use Rattle.wf_turn.proofs.TurnsPlayed.{stopped}
use Rattle.wf_turn.proofs.player.play_turn.Goals as goal

pub returns-in-Err-clause-part : goal.returns-in-Err-clause-part
returns-in-Err-clause-part g = λ c.
    let a = c.args in
    let one = c.next_turn-painted in
    stopped g.K.Sink.took a.k.now c.put_frame.new.k a.writer.now.form a.writer.now.written c.in-Err.stop.written a.show.now one.new.show
    a.client one.result.0 one.result.1 one.ensures (rw c.turns-begin.ensures at c.in-Err.ensures.part)
    c.next_turn.new.show c.next_turn.result.0 c.next_turn.result.1 a.played.now.items c.push_reserved.new.self.items
    c.push_reserved-in-Err.new.self.items c.next_turn.ensures c.push_reserved.ensures.items c.push_reserved-in-Err.ensures.items
