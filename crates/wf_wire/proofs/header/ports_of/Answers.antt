use Rattle.std.proofs.Common.{ap, arith, length, refl}
use Rattle.wf_words.specs.Filtered.{all_more}
use Rattle.wf_calls.specs.PortRules.{may_have}
use Rattle.wf_wire.proofs.Eaches.{goes_from_start}
use Rattle.wf_wire.proofs.Headers.{ports, ports_further, ports_to_end, ports_to_stop}
use Rattle.wf_wire.proofs.header.ports_of.Goals as goal

pub loop-init : goal.loop-init
loop-init g c = record {
  so_far = rw c.new-modes.ensures (goes_from_start ports _ _ _);
  many = ap length c.new-modes.ensures;
  may = rw c.new-modes.ensures refl;
  most = omega arith;
  later = omega arith;
}

pub returns-in-Err-clause-finds : goal.returns-in-Err-clause-finds
returns-in-Err-clause-finds g c = ports_to_stop _ _ _ _ _ _ _ _ _ c.loop-test.true c.loop.invariant.so_far _ c.in-Err.ensures.finds

pub loop-preserved : goal.loop-preserved
loop-preserved g c = record {
  so_far = rw c.push.ensures.items (ports_further _ _ _ _ _ _ _ _ _ c.loop-test.true c.loop.invariant.so_far _ c.in-Ok.ensures.finds);
  many = omega (arith, c.push.ensures.len, c.loop.invariant.many);
  may = rw c.push.ensures.items (all_more may_have c.loop.modes.items c.in-Ok.one c.loop.invariant.may c.in-Ok.ensures.may);
  most = omega (arith, c.in-Ok.ensures.most, c.loop.invariant.most);
  later = omega (arith, c.in-Ok.ensures.caused.later, c.loop.invariant.later);
}

pub returns-clause-finds : goal.returns-clause-finds
returns-clause-finds g c = ports_to_end _ _ _ _ _ _ _ c.loop-test.false c.loop.invariant.so_far
