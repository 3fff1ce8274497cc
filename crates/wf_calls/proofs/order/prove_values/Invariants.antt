use Rattle.std.proofs.Common.{take}
use Rattle.std.specs.List.{AllByRecursion}
use Rattle.wf_calls.specs.Orders.{IsEntry}
use Rattle.wf_calls.proofs.order.prove_values.Given as goal

abbrev pub invariant-loop-turn : goal.invariant-loop-turn
invariant-loop-turn l = AllByRecursion IsEntry (take l.turn-index l.turns)
