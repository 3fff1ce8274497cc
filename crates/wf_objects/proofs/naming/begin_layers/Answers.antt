use Rattle.std.proofs.Common.{◌∙◌, [], flat_map, refl, take, arith}
use Rattle.wf_stream.specs.Names.{still_counted}
use Rattle.wf_model.specs.Names.{layer_names}
use Rattle.wf_stream.specs.Renames.{same_names}
use Rattle.wf_objects.proofs.LayerNames.{few_began, fits_at, more_began}
use Rattle.wf_objects.proofs.naming.begin_layers.Goals as goal

pub loop-layer-init : goal.loop-layer-init
loop-layer-init c = record { begins = same_names c.args.store.now; streams = refl }

pub begin_layer-requires-clause-counted : goal.begin_layer-requires-clause-counted
begin_layer-requires-clause-counted c =
    let l = c.loop-layer in
    still_counted c.args.store.now l.store [] (flat_map layer_names (take l.layer-index c.args.layers.now)) c.requires.counted
    l.invariant.begins.names

pub begin_layer-requires-clause-fit : goal.begin_layer-requires-clause-fit
begin_layer-requires-clause-fit c =
    let l = c.loop-layer in
    rw l.invariant.streams (fits_at c.args.layers.now l.layer-index _ c.loop-layer-test.true c.args.store.now.streams c.requires.fit)

pub begin_layer-requires-clause-room : goal.begin_layer-requires-clause-room
begin_layer-requires-clause-room c =
    λ n. (let most = few_began n c.loop-layer.layer-index c.args.layers.now c.args.store.now c.loop-layer.store c.requires.few
    c.loop-layer.auto.layer-index-end c.loop-layer.invariant.begins in
    let room = c.requires.room n in
    omega (arith, most, room))

pub loop-layer-preserved : goal.loop-layer-preserved
loop-layer-preserved c =
    let l = c.loop-layer in
    record {
      begins = more_began c.args.layers.now l.layer-index _ c.loop-layer-test.true c.args.store.now l.store c.begin_layer.new.store
          c.requires.counted l.invariant.begins c.begin_layer.ensures.begins;
      streams = c.begin_layer.ensures.streams ∙ l.invariant.streams;
    }
