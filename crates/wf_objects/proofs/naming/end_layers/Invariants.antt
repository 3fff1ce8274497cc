use Rattle.std.proofs.Common.{[], drop, flat_map, take}
use Rattle.wf_model.specs.Names.{layer_names}
use Rattle.wf_stream.specs.Names.{NamesFit}
use Rattle.wf_stream.specs.Renames.{Renames}
use Rattle.wf_objects.proofs.naming.end_layers.Given as goal

-- the names of the layers that were passed ended, and the others are counted
abbrev pub invariant-loop-layer : goal.invariant-loop-layer
invariant-loop-layer l =
    record {
      ends : Renames (flat_map layer_names (take l.layer-index l.layers)) [] l.initial.store l.store;
      left : NamesFit (flat_map layer_names (drop l.layer-index l.layers)) l.store;
    }
