use Rattle.std.proofs.Common.{arith}
use Rattle.wf_io.proofs.Pieces.{puts_next}
use Rattle.wf_io.proofs.writing.write_all.Goals as goal

pub loop-written-preserved : goal.loop-written-preserved
loop-written-preserved g c = record {
  within = omega (arith, c.in-Ok.ensures.bound);
  front = puts_next g.K.Sink.took c.args.k.now c.loop-written.k c.put.new.self c.args.bytes.now c.loop-written.written c.in-Ok.n
      c.loop-written.invariant.front c.in-Ok.ensures.taken;
  later = omega (arith, c.in-Ok.ensures.cause.later, c.loop-written.invariant.later);
}
