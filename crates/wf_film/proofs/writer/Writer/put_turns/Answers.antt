use Rattle.std.proofs.lemmas.Result.{err_from_is_err_and}
use Rattle.wf_film.specs.Film.{turn_bytes}
use Rattle.wf_film.proofs.Elements.{stops_within}
use Rattle.wf_film.proofs.writer.Writer.put_turns.Goals as goal

pub returns-in_err-put-clause-part : goal.returns-in_err-put-clause-part
returns-in_err-put-clause-part g c =
    let p = err_from_is_err_and c.from_residual.result c.from_residual.ensures.1 in
    rw (p.1, p.2, ← c.turns-turn-items.ensures)
    (stops_within g.K.Sink.took _ _ _ turn_bytes c.turns-turn-items.result.now c.loop-turn.turn-index _ _ _ _ c.loop-turn-test.true
    c.loop-turn.invariant.front c.loop-turn.invariant.written (rw c.bytes_of_turn.ensures at c.in_err-put.ensures.part))
