use Rattle.wf_turn.proofs.Common.{◌∙◌, ◌+◌, ap, sym, arith, is_event_of, lines_from, skipped}
use Rattle.wf_turn.proofs.Skips.{passes, place_end}
use Rattle.wf_turn.proofs.skipping.skip.Goals as goal

pub loop-at-preserved : goal.loop-at-preserved
loop-at-preserved c =
    let lines = c.args.lines.now in
    let was = c.loop-at.invariant in
    let quiet = ap (λ held. is_event_of c.args.client held c.index-lines-at.result) (sym c.is_some.ensures) ∙ sym c.is_event_of.ensures
    ∙ c.if-is_event_of.false in
    let step = passes c.args.client c.loop-at.at lines c.index-lines-at.result c.loop-at.canvas c.loop-at-test.true c.index-lines-at.is
    quiet in
    record {
      within = omega (arith, c.loop-at-test.true);
      later = omega (arith, was.later);
      same = was.same ∙ step.0 ∙ ap (λ canvas. skipped canvas (lines_from c.args.client (c.loop-at.at + 1) lines))
          (sym c.pass.ensures);
      names = step.1 ∙ was.names;
    }

pub returns-clause-place : goal.returns-clause-place
returns-clause-place c = place_end _ c.loop-at.at _ c.loop-at.invariant.within
    (omega (arith, c.loop-at-test.false))
