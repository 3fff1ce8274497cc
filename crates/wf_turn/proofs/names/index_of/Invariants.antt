use Rattle.wf_turn.proofs.Common.{◌≡◌, take, names_of, bound_names}
use Rattle.wf_turn.specs.Index.{IsIndex}
use Rattle.wf_turn.proofs.names.index_of.Given as goal

-- the names of the lines so far
abbrev pub invariant-loop-line : goal.invariant-loop-line
invariant-loop-line l = record {
  names : names_of l.index ≡ bound_names l.client (take l.line-index l.lines);
  index : IsIndex l.index;
}
