use Rattle.std.proofs.Common.{arith}
use Rattle.wf_serve.proofs.Running.{served_on}
use Rattle.wf_serve.proofs.serving.serve_all.Goals as goal

pub loop-preserved : goal.loop-preserved
loop-preserved g c = record {
  all = served_on g.K.Sink.took g.F.Sink.took c.args.core.now c.loop.core (g.I.Source.left c.args.input.now)
      (g.I.Source.left c.loop.input) (g.I.Source.left c.serve_next.new.input) c.args.out.now c.loop.out c.serve_next.new.out
      c.args.frames.now c.loop.frames c.serve_next.new.frames c.loop.invariant.all c.serve_next.new.core c.in-Ok-true.field-0
      c.in-Ok-true.field-0-test c.in-Ok-true.ensures.next;
  size = omega (arith, c.loop.invariant.size, c.serve_next.ensures.size);
  input_count = omega (arith, c.loop.invariant.input_count, c.serve_next.ensures.input_count);
  out_count = omega (arith, c.loop.invariant.out_count, c.serve_next.ensures.out_count);
  frames_count = omega (arith, c.loop.invariant.frames_count, c.serve_next.ensures.frames_count);
}
