use Rattle.wf_turn.proofs.Common.{ap, arith, length, length-map}
use Rattle.wf_turn.proofs.Values.{few_names}
use Rattle.wf_turn.proofs.names.Names.new.Goals as goal

pub invariant_of-result : goal.invariant_of-result
invariant_of-result c =
    record {
      index = c.in_ok-index.ensures.index;
      few = omega (arith, ap length c.in_ok-index.ensures.names, few_names c.args.client c.args.lines.now, c.requires);
      room = omega (arith, c.in_ok-values.ensures.exact, c.len.ensures, length-map c.in_ok-index.index.names.items (λ n. n.now));
    }
