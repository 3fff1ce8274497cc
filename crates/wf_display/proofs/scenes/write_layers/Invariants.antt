use Rattle.std.proofs.Common.{◌≡◌, ◌≤◌, ◌+◌, ◌∷◌, filter_map, length, take}
use Rattle.wf_model.specs.Display.{pipeline_layer}
use Rattle.wf_display.proofs.scenes.write_layers.Given as goal

-- the layers of the pipelines so far
abbrev pub invariant-loop-pipeline : goal.invariant-loop-pipeline
invariant-loop-pipeline l = record {
  layers : l.layers.items ≡ l.fn.lowest ∷ filter_map (pipeline_layer l.number) (take l.pipeline-index l.pipelines);
  room : length l.layers.items ≤ l.pipeline-index + 1;
}
