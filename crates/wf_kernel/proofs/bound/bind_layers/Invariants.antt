use Rattle.std.proofs.Common.{◌≡◌, map, take}
use Rattle.wf_kernel.specs.Bound.{bound}
use Rattle.wf_kernel.specs.Prepared.{tables_before}
use Rattle.wf_kernel.proofs.bound.bind_layers.Given as goal

-- the layers so far are bound
abbrev pub invariant-loop-i : goal.invariant-loop-i
invariant-loop-i g l = record {
  items : l.list.items ≡ map (bound l.scene l.contents l.left l.right) (take l.i l.scene.layers.items);
  place_is : l.place ≡ tables_before l.scene l.i;
}
