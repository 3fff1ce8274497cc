use Rattle.std.proofs.Common.{◌≡◌, take}
use Rattle.wf_scene.proofs.Scene.copy.Given as goal

-- the layers so far are copied
abbrev pub invariant-loop-layer : goal.invariant-loop-layer
invariant-loop-layer l = l.layers.items ≡ take l.layer-index l.layer-items
