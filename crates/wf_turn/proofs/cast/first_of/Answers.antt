use Rattle.wf_turn.proofs.Common.{sym, subst, ◌∙◌, ◌∷◌, None, ap, IfSome, earlier, StandsOwn}
use Rattle.wf_turn.proofs.Clients.{all_passed, one_passed, own_clock, own_passed}
use Rattle.wf_turn.proofs.cast.first_of.Goals as goal

pub loop-before-init : goal.loop-before-init
loop-before-init c = (
  c.earlier-best.ensures ∙ ap (λ o. earlier None (0, o)) c.place.ensures.place,
  subst (λ b. IfSome b (StandsOwn (c.args.clock.now ∷ c.args.others.now))) (sym c.earlier-best.ensures)
      (own_clock c.args.clock.now c.args.others.now c.place.result c.place.ensures.own),
)

pub loop-before-preserved : goal.loop-before-preserved
loop-before-preserved c =
    let clock = c.args.clock.now in
    let ps = c.args.others.now in
    let i = c.loop-before.before in
    let p = c.index-others-before.result in
    let place = c.place-in-loop-before in (
      c.earlier-best-in-loop-before.ensures ∙ one_passed clock ps i c.loop-before.best p place.result c.loop-before-test.true
          c.index-others-before.is place.ensures.place c.loop-before.invariant.0,
      subst (λ b. IfSome b (StandsOwn (clock ∷ ps))) (sym c.earlier-best-in-loop-before.ensures)
          (own_passed clock ps i c.loop-before.best p place.result c.loop-before-test.true c.index-others-before.is place.ensures.own
          c.loop-before.invariant.1),
    )

pub returns-clause-first : goal.returns-clause-first
returns-clause-first c = all_passed c.args.clock.now _ c.loop-before.before c.loop-before.best c.loop-before-test.false
    c.loop-before.invariant.0
