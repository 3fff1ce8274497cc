use Rattle.std.proofs.Common.{◌≤◌, length}
use Rattle.wf_serve.specs.Runs.{ServedAll}
use Rattle.wf_serve.specs.declared.input.TheConstants.{MOST_FRAME}
use Rattle.wf_serve.proofs.serving.serve_all.Given as goal

-- the messages so far were served
abbrev pub invariant-loop : goal.invariant-loop
invariant-loop g l = record {
  all :
      ServedAll g.K.Sink.took g.F.Sink.took l.initial.core l.core (g.I.Source.left l.initial.input) (g.I.Source.left l.input)
      l.initial.out l.out l.initial.frames l.frames;
  size : MOST_FRAME ≤ length l.buffer;
  input_count : g.I.Source.faults l.initial.input ≤ g.I.Source.faults l.input;
  out_count : g.K.Sink.faults l.initial.out ≤ g.K.Sink.faults l.out;
  frames_count : g.F.Sink.faults l.initial.frames ≤ g.F.Sink.faults l.frames;
}
