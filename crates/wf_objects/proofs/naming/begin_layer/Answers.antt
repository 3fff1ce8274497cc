use Rattle.std.proofs.Common.{[], ◌∷◌, arith}
use Rattle.wf_stream.specs.Names.{still_counted}
use Rattle.wf_stream.specs.Renames.{Renames}
use Rattle.wf_objects.proofs.LayerNames.{began_most, mask_kept, stream_kept, then_began}
use Rattle.wf_objects.proofs.naming.begin_layer.Goals as goal
use Rattle.wf_objects.proofs.naming.begin_layer.Goals.{After-begin_name}

-- the name of the stream began
first : (c : After-begin_name) → Renames [] (c.args.layer.stream ∷ []) c.args.store.now c.begin_name.new.store
first c = record { names = c.begin_name.ensures.names; none = c.begin_name.ensures.none; rest = c.begin_name.ensures.rest }

pub begin_name-requires-clause-kept : goal.begin_name-requires-clause-kept
begin_name-requires-clause-kept c = λ some. stream_kept c.args.layer c.args.store.now.streams c.requires.fit

pub begin_name-requires-2-clause-counted : goal.begin_name-requires-2-clause-counted
begin_name-requires-2-clause-counted c =
    still_counted c.args.store.now c.begin_name.new.store [] (c.args.layer.stream ∷ []) c.requires.counted c.begin_name.ensures.names

pub begin_name-requires-2-clause-kept : goal.begin_name-requires-2-clause-kept
begin_name-requires-2-clause-kept c = rw c.begin_name.ensures.streams (mask_kept c.args.layer c.args.store.now.streams c.requires.fit)

pub begin_name-requires-2-clause-room : goal.begin_name-requires-2-clause-room
begin_name-requires-2-clause-room c =
    let n = c.args.layer.mask in
    let most = began_most n (c.args.layer.stream ∷ []) c.args.store.now c.begin_name.new.store
    (first (goal.at.begin_name-requires-2-clause-room c).After-begin_name) in
    let room = c.requires.room n in
    omega (arith, most, room)

pub returns-clause-begins : goal.returns-clause-begins
returns-clause-begins c =
    then_began c.args.store.now c.begin_name.new.store c.begin_name-2.new.store (c.args.layer.stream ∷ []) (c.args.layer.mask ∷ [])
    c.requires.counted (first (goal.at.returns-clause-begins c).After-begin_name)
    (record { names = c.begin_name-2.ensures.names; none = c.begin_name-2.ensures.none; rest = c.begin_name-2.ensures.rest })
