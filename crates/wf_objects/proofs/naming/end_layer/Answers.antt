use Rattle.std.proofs.Common.{[], ◌∷◌}
use Rattle.wf_stream.specs.Renames.{Renames}
use Rattle.wf_objects.proofs.LayerNames.{alone, others_fit, then_ended}
use Rattle.wf_objects.proofs.naming.end_layer.Goals as goal
use Rattle.wf_objects.proofs.naming.end_layer.Goals.{After-end_name}

-- the name of the stream ended
first : (c : After-end_name) → Renames (c.args.layer.stream ∷ []) [] c.args.store.now c.end_name.new.store
first c = record { names = c.end_name.ensures.names; none = c.end_name.ensures.none; rest = c.end_name.ensures.rest }

pub end_name-requires-2-clause-counted : goal.end_name-requires-2-clause-counted
end_name-requires-2-clause-counted c =
    (others_fit c.args.store.now c.end_name.new.store (c.args.layer.stream ∷ []) (c.args.layer.mask ∷ [])
    (first (goal.at.end_name-requires-2-clause-counted c).After-end_name) c.requires).counted

pub end_name-requires-2-clause-named : goal.end_name-requires-2-clause-named
end_name-requires-2-clause-named c =
    alone c.args.layer.mask c.end_name.new.store
    (others_fit c.args.store.now c.end_name.new.store (c.args.layer.stream ∷ []) (c.args.layer.mask ∷ [])
    (first (goal.at.end_name-requires-2-clause-named c).After-end_name) c.requires)

pub returns : goal.returns
returns c =
    then_ended c.args.store.now c.end_name.new.store c.end_name-2.new.store (c.args.layer.stream ∷ []) (c.args.layer.mask ∷ [])
    c.requires.counted (first (goal.at.returns c).After-end_name)
    (record { names = c.end_name-2.ensures.names; none = c.end_name-2.ensures.none; rest = c.end_name-2.ensures.rest })
