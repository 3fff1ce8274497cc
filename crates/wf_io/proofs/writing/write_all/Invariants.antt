use Rattle.std.proofs.Common.{◌-◌, ◌≤◌, length, take}
use Rattle.wf_io.specs.Bytes.{Puts}
use Rattle.wf_io.proofs.writing.write_all.Given as goal

abbrev pub invariant-loop-written : goal.invariant-loop-written
invariant-loop-written g l = record {
  within : l.written ≤ length l.bytes;
  front : Puts g.K.Sink.took l.initial.k l.k (take l.written l.bytes);
  later : g.K.Sink.faults l.initial.k ≤ g.K.Sink.faults l.k;
}

abbrev pub decreases-loop-written : goal.decreases-loop-written
decreases-loop-written g l = length l.bytes - l.written
