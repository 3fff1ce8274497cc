use Rattle.std.proofs.Common.{arith, pos}
use Rattle.wf_script.specs.Spelled.{integer_word}
use Rattle.wf_script.proofs.Tokens.{words_next}
use Rattle.wf_script.proofs.value_text.add_numbers.Goals as goal

pub loop-number-preserved : goal.loop-number-preserved
loop-number-preserved g c = record {
  adds = words_next g.K.Sink.took g.K.Sink.faults integer_word c.args.numbers.now c.loop-number.number-index (pos 0) _ _ _ _ _ _
      c.loop-number-test.true c.loop-number.invariant.adds c.add_word.ensures.adds;
  most = omega arith;
}
