use Rattle.std.proofs.Common.{◌+◌, ◌-◌, ◌≤◌, vec_len}
use Rattle.std.specs.Io.KnownBytes.{Consumes}
use Rattle.wf_io.proofs.reading.read_all.Given as goal

-- what was read so far stood at the front of what the source had left
abbrev pub invariant-loop-piece : goal.invariant-loop-piece
invariant-loop-piece g l = record {
  so_far : Consumes (g.S.Source.left l.initial.s) (g.S.Source.left l.s) l.bytes.items;
  later : g.S.Source.faults l.initial.s ≤ g.S.Source.faults l.s;
  few : vec_len l.bytes ≤ l.limit + 1;
}

abbrev pub decreases-loop-piece : goal.decreases-loop-piece
decreases-loop-piece g l = l.limit + 1 - vec_len l.bytes
