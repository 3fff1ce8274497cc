use Rattle.std.proofs.Common.{◌++◌, arith, subst}
use Rattle.std.specs.Prelude.{codes}
use Rattle.wf_script.specs.declared.token.Shown.{Shown}
use Rattle.wf_script.specs.Text.{Adds}
use Rattle.wf_script.specs.Token.{shown_word}
use Rattle.wf_script.proofs.Tokens.{words_next}
use Rattle.wf_script.proofs.token.add_all_shown.Goals as goal

pub loop-one-preserved : goal.loop-one-preserved
loop-one-preserved g c = record {
  adds = words_next g.K.Sink.took g.K.Sink.faults shown_word c.args.shown.now c.loop-one.one-index c.one-item.result _ _ _ _ _ _
      c.loop-one-test.true c.loop-one.invariant.adds
      (subst (λ (shown : Shown). Adds g.K.Sink.took g.K.Sink.faults c.loop-one.text c.loop-one.k c.add_word.new.text c.add_word.new.k
      (codes " " ++ shown_word shown)) c.one-item.is c.add_word.ensures.adds);
  most = omega arith;
}
