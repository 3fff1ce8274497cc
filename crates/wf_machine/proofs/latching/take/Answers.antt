use Rattle.wf_machine.proofs.Common.{subst, sym, latched, AreShapedAs}
use Rattle.wf_machine.proofs.StreamsLatched.{latched_keeps, shaped_changed, shaped_more}
use Rattle.wf_machine.proofs.latching.take.Goals as goal

pub returns-in-Some-clause-shaped : goal.returns-in-Some-clause-shaped
returns-in-Some-clause-shaped c shaped =
    let streams = c.args.store.now.streams in
    let all = subst (λ contents. AreShapedAs streams contents) (sym c.put.ensures.contents)
    (shaped_more _ c.in-Some.image streams _ shaped c.in-Some.ensures.shape) in
    subst (λ store. AreShapedAs store.streams c.put.new.contents) (sym c.latch.ensures.latched)
    (shaped_changed latched c.args.number streams _ latched_keeps all)

pub returns-in_default-clause-shaped : goal.returns-in_default-clause-shaped
returns-in_default-clause-shaped c shaped =
    subst (λ store. AreShapedAs store.streams c.args.contents.now) (sym c.latch.ensures.latched)
    (shaped_changed latched c.args.number _ _ latched_keeps shaped)
