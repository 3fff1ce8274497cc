use Rattle.std.proofs.Common.{[], ◌∷◌, ap, arith, length, length-append}
use Rattle.wf_wire.specs.Messages.{argument}
use Rattle.wf_wire.proofs.Eaches.{goes_from_start, goes_further_at, goes_to_end_at, goes_to_stop_at}
use Rattle.wf_wire.proofs.messages.arguments_of.Goals as goal

pub loop-kind-init : goal.loop-kind-init
loop-kind-init g c = record {
  so_far = rw c.new-bits.ensures (goes_from_start argument _ _ _);
  many = ap length c.new-bits.ensures;
  least = omega arith;
  most = omega arith;
  later = omega arith;
}

pub returns-in-Err-clause-finds : goal.returns-in-Err-clause-finds
returns-in-Err-clause-finds g c =
    goes_to_stop_at argument _ _ _ _ _ _ _ _ _ _ c.loop-kind-test.true c.loop-kind.invariant.so_far _ c.in-Err.ensures.finds

pub loop-kind-preserved : goal.loop-kind-preserved
loop-kind-preserved g c = record {
  so_far = rw c.push.ensures.items
      (goes_further_at argument _ _ _ _ _ _ _ _ _ _ c.loop-kind-test.true c.loop-kind.invariant.so_far _ c.in-Ok.ensures.finds);
  many = rw c.push.ensures.items (omega (arith, length-append c.loop-kind.bits.items (c.in-Ok.one ∷ []), c.loop-kind.invariant.many));
  least = omega (arith, c.in-Ok.ensures.least, c.loop-kind.invariant.least);
  most = omega (arith, c.in-Ok.ensures.most, c.loop-kind.invariant.most);
  later = omega (arith, c.in-Ok.ensures.caused.later, c.loop-kind.invariant.later);
}

pub returns-clause-finds : goal.returns-clause-finds
returns-clause-finds g c = goes_to_end_at argument _ _ _ _ _ _ _ c.loop-kind-test.false c.loop-kind.invariant.so_far
