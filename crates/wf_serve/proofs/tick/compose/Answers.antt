use Rattle.std.proofs.Common.{◌≡◌, ◌∙◌, ◌+◌, ◌-◌, ap, arith, sym}
use Rattle.wf_model.specs.declared.TheConstants.{MOST_CONTEXTS}
use Rattle.wf_serve.specs.Ticks.{composed}
use Rattle.wf_serve.proofs.Composed.{goes_on, stops}
use Rattle.wf_serve.proofs.tick.compose.Goals as goal

pub returns-then-after-eq0-clause-machine : goal.returns-then-after-eq0-clause-machine
returns-then-after-eq0-clause-machine c =
    stops (MOST_CONTEXTS - c.loop.counter) c.loop.after c.compose_next-after.result c.loop.machine c.compose_next-after.new.machine
    (omega (arith, c.loop-test.true)) c.compose_next-after.ensures.machine c.compose_next-after.ensures.value c.if-after-eq0.true
    ∙ sym c.loop.invariant.rest

pub loop-preserved : goal.loop-preserved
loop-preserved c =
    let fewer : MOST_CONTEXTS - c.loop.counter - 1 ≡ MOST_CONTEXTS - (c.loop.counter + 1) = omega (arith, c.loop-test.true) in record {
      rest = c.loop.invariant.rest
          ∙ goes_on (MOST_CONTEXTS - c.loop.counter) c.loop.after c.compose_next-after.result c.loop.machine
          c.compose_next-after.new.machine (omega (arith, c.loop-test.true)) c.compose_next-after.ensures.machine
          c.compose_next-after.ensures.value c.if-after-eq0.false
          ∙ ap (λ n. composed n c.compose_next-after.result c.compose_next-after.new.machine) fewer;
      free = c.compose_next-after.ensures.frame;
      few = omega (arith, c.loop-test.true);
    }
