use Rattle.std.proofs.Common.{◌≡◌, ◌≤◌, length}
use Rattle.std.specs.Prelude.{None}
use Rattle.wf_calls.specs.Places.{job_in}
use Rattle.wf_io.specs.Bytes.{Puts}
use Rattle.wf_serve.specs.Ticks.{Showing, shown}
use Rattle.wf_serve.proofs.showing.show.Given as goal

-- the ports so far have shown their pictures
abbrev pub invariant-loop-n : goal.invariant-loop-n
invariant-loop-n g l = let so : Showing = shown l.initial.pictures l.tick l.n l.initial.machine l.initial.screens.items in record {
  machine : l.machine ≡ so.machine;
  free : job_in l.place ≡ None;
  form : l.pictures ≡ l.initial.pictures;
  screens : l.screens.items ≡ so.screens;
  count : length l.screens.items ≡ length l.initial.screens.items;
  put : Puts g.K.Sink.took l.initial.out l.out so.put;
  later : g.K.Sink.faults l.initial.out ≤ g.K.Sink.faults l.out;
}
