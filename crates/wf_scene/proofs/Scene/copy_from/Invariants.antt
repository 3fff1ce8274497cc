use Rattle.std.proofs.Common.{◌≡◌, take}
use Rattle.wf_scene.proofs.Scene.copy_from.Given as goal

-- the layers so far are copied, and all else is
abbrev pub invariant-loop-layer : goal.invariant-loop-layer
invariant-loop-layer l = record {
  layers : l.self.layers.items ≡ take l.layer-index l.layer-items;
  size : l.self.size ≡ l.other.size;
  turn : l.self.turn ≡ l.other.turn;
  background : l.self.background ≡ l.other.background;
}
