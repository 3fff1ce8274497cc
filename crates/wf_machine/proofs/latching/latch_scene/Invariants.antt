use Rattle.wf_machine.proofs.Common.{◌≡◌, ◌*◌, ◌≤◌, length, map, take, flat_map, once, content_shape, layer_names}
use Rattle.wf_machine.proofs.StreamsLatched.{IsTaken}
use Rattle.wf_machine.proofs.latching.latch_scene.Given as goal

-- the streams of the layers so far were latched, and the shapes are those of the images
abbrev pub invariant-loop-layer : goal.invariant-loop-layer
invariant-loop-layer l = record {
  so_far : IsTaken l.initial.store (once (flat_map layer_names (take l.layer-index l.layer-items))) l.contents l.store;
  few : length l.contents ≤ 2 * l.layer-index;
  shapes : l.shapes.items ≡ map content_shape l.contents;
}
