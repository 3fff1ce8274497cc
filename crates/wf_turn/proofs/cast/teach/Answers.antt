use Rattle.wf_turn.proofs.Common.{◌∙◌, ap, sym, get_or, taught}
use Rattle.wf_words.specs.Places.{map_all, map_step, next_is}
use Rattle.wf_turn.proofs.ListsMapped.{script_at}
use Rattle.wf_turn.proofs.cast.teach.Goals as goal

pub learn-requires-clause-script : goal.learn-requires-clause-script
learn-requires-clause-script c =
    sym
    (ap (λ p. p.script) (ap (λ ps. get_or ps c.loop-program.program-index c.program-item.result)
    c.loop-program.invariant ∙ next_is (taught c.args.clock.now) _ c.loop-program.program-index c.program-item.result
    c.loop-program-test.true)
    ∙ script_at _ _ c.loop-program.program-index _ c.loop-program-test.true
    c.requires.script)

pub loop-program-preserved : goal.loop-program-preserved
loop-program-preserved c =
    map_step (taught c.args.clock.now) _ c.loop-program.others c.loop-program.program-index c.program-item.result
    c.learn.new.self c.loop-program-test.true c.loop-program.invariant c.learn.ensures.taught

pub returns : goal.returns
returns c = map_all (taught c.args.clock.now) _ c.loop-program.others c.loop-program.program-index c.loop-program-test.false
    c.loop-program.invariant
