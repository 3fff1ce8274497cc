use Rattle.std.proofs.Common.{arith}
use Rattle.wf_script.specs.Canonical.{size_word}
use Rattle.wf_script.proofs.Tokens.{words_next}
use Rattle.wf_script.proofs.printing.add_sizes.Goals as goal

pub loop-size-preserved : goal.loop-size-preserved
loop-size-preserved g c = record {
  adds = words_next g.K.Sink.took g.K.Sink.faults size_word c.args.sizes.now c.loop-size.size-index _ _ _ _ _ _ _
      c.loop-size-test.true c.loop-size.invariant.adds c.add_word.ensures.adds;
  most = omega arith;
}
