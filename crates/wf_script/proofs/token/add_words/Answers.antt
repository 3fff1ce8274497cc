use Rattle.std.proofs.Common.{◌++◌, arith, subst}
use Rattle.std.specs.Prelude.{codes}
use Rattle.wf_script.specs.declared.token.Token.{Token}
use Rattle.wf_script.specs.Text.{Adds}
use Rattle.wf_script.specs.Token.{token_word}
use Rattle.wf_script.proofs.Tokens.{words_next}
use Rattle.wf_script.proofs.token.add_words.Goals as goal

pub loop-token-preserved : goal.loop-token-preserved
loop-token-preserved g c = record {
  adds = words_next g.K.Sink.took g.K.Sink.faults token_word c.args.tokens.now c.loop-token.token-index c.token-item.result _ _ _ _ _ _
      c.loop-token-test.true c.loop-token.invariant.adds
      (subst (λ (token : Token). Adds g.K.Sink.took g.K.Sink.faults c.loop-token.text c.loop-token.k c.add_word.new.text c.add_word.new.k
      (codes " " ++ token_word token)) c.token-item.is c.add_word.ensures.adds);
  most = omega arith;
}
