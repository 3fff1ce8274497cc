use Rattle.wf_turn.proofs.Common.{◌≡◌, ◌≤◌, take}
use Rattle.std.specs.Prelude.{vec_capacity}
use Rattle.wf_turn.proofs.names.Names.learn.Given as goal

-- the values so far
abbrev pub invariant-loop-value : goal.invariant-loop-value
invariant-loop-value l = record {
  index : l.self-inside.index ≡ l.initial.self-inside.index;
  values : l.self-inside.values.items ≡ take l.value-index l.value-items;
  room : vec_capacity l.initial.self-inside.values ≤ vec_capacity l.self-inside.values;
}
