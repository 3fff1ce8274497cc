use Rattle.std.proofs.Common.{◌≡◌, [], flat_map, take}
use Rattle.wf_model.specs.Names.{layer_names}
use Rattle.wf_stream.specs.Renames.{Renames}
use Rattle.wf_objects.proofs.naming.begin_layers.Given as goal

-- the names of the layers that were passed began
abbrev pub invariant-loop-layer : goal.invariant-loop-layer
invariant-loop-layer l =
    record {
      begins : Renames [] (flat_map layer_names (take l.layer-index l.layers)) l.initial.store l.store;
      streams : l.store.streams ≡ l.initial.store.streams;
    }
