use Rattle.std.proofs.Common.{[], ◌∷◌, flat_map}
use Rattle.wf_model.specs.Names.{layer_names}
use Rattle.wf_stream.specs.Renames.{Renames}
use Rattle.wf_objects.proofs.LayerNames.{others_fit, then_ended}
use Rattle.wf_objects.proofs.naming.end_context.Goals as goal
use Rattle.wf_objects.proofs.naming.end_context.Goals.{After-end_name}

-- the name of the target ended
first : (c : After-end_name) → Renames (c.context.inside.target ∷ []) [] c.args.store.now c.end_name.new.store
first c = record { names = c.end_name.ensures.names; none = c.end_name.ensures.none; rest = c.end_name.ensures.rest }

pub end_layers-requires : goal.end_layers-requires
end_layers-requires c =
    let k = c.context.inside in
    rw c.as_slice.ensures.value (others_fit c.args.store.now c.end_name.new.store (k.target ∷ [])
    (flat_map layer_names k.committed.layers.items) (first (goal.at.end_layers-requires c).After-end_name)
    (rw (← c.context.view_is) at c.requires))

pub returns : goal.returns
returns c =
    let k = c.context.inside in
    rw (← c.context.view_is) (then_ended c.args.store.now c.end_name.new.store c.end_layers.new.store (k.target ∷ [])
    (flat_map layer_names k.committed.layers.items) c.requires.counted (first (goal.at.returns c).After-end_name)
    (rw c.as_slice.ensures.value at c.end_layers.ensures))
