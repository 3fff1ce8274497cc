use Rattle.std.proofs.Common.{◌≡◌, ◌-◌, length, slice_get}
use Rattle.wf_scene.specs.Slots.{all_held, inserted_in}
use Rattle.wf_scene.proofs.Walked.{IsFound}
use Rattle.wf_scene.proofs.consistency.layers_of.Given as goal

-- the next slot is the one behind the layers so far, and what is found from there on is what is found of all
abbrev pub invariant-loop-next : goal.invariant-loop-next
invariant-loop-next g l = record {
  at : l.next ≡ slice_get (inserted_in l.slots.links) (length l.layers.items);
  found : IsFound (g.L.Look.sight l.look) (all_held l.slots.table.items (inserted_in l.slots.links)) l.layers.items;
}

abbrev pub decreases-loop-next : goal.decreases-loop-next
decreases-loop-next g l = length (inserted_in l.slots.links) - length l.layers.items
