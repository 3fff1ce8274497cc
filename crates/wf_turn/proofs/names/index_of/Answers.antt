use Rattle.wf_turn.proofs.Values.{few_so_far, names_step}
use Rattle.wf_turn.proofs.names.index_of.Goals as goal

pub add-requires-clause-few : goal.add-requires-clause-few
add-requires-clause-few c = few_so_far _ _ c.loop-line.line-index _ c.loop-line.invariant.names c.requires.few

pub loop-line-preserved : goal.loop-line-preserved
loop-line-preserved c = record {
  names = names_step _ _ c.loop-line.line-index _ _ _ _ c.in_ok-add.ensures.names
      c.loop-line.invariant.names c.bound_by.ensures c.loop-line-test.true c.line-item.is;
  index = c.in_ok-add.ensures.index;
}
