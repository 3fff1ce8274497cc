use Rattle.std.proofs.Common.{◌≡◌, ◌+◌, ◌*◌, ◌≤◌, length, flat_map, take}
use Rattle.wf_io.specs.Bytes.{Puts}
use Rattle.wf_film.specs.Film.{turn_bytes}
use Rattle.wf_film.proofs.writer.Writer.put_turns.Given as goal

abbrev pub invariant-loop-turn : goal.invariant-loop-turn
invariant-loop-turn g l = record {
  front : Puts g.K.Sink.took l.initial.k l.k (flat_map turn_bytes (take l.turn-index l.turn-items));
  form : l.self.form ≡ l.initial.self.form;
  written : l.self.written ≡ l.initial.self.written + length (flat_map turn_bytes (take l.turn-index l.turn-items));
  six : length (flat_map turn_bytes (take l.turn-index l.turn-items)) ≡ 6 * l.turn-index;
  later : g.K.Sink.faults l.initial.k ≤ g.K.Sink.faults l.k;
}
