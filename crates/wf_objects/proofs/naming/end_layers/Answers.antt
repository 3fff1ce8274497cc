use Rattle.wf_stream.specs.Renames.{same_names}
use Rattle.wf_objects.proofs.LayerNames.{here_fit, left_fit, more_ended}
use Rattle.wf_objects.proofs.naming.end_layers.Goals as goal

pub loop-layer-init : goal.loop-layer-init
loop-layer-init c = record { ends = same_names c.args.store.now; left = c.requires }

pub end_layer-requires : goal.end_layer-requires
end_layer-requires c =
    here_fit c.args.layers.now c.loop-layer.layer-index _ c.loop-layer-test.true c.loop-layer.store c.loop-layer.invariant.left

pub loop-layer-preserved : goal.loop-layer-preserved
loop-layer-preserved c =
    let l = c.loop-layer in
    record {
      ends = more_ended c.args.layers.now l.layer-index _ c.loop-layer-test.true c.args.store.now l.store c.end_layer.new.store
          c.requires.counted l.invariant.ends c.end_layer.ensures;
      left = left_fit c.args.layers.now l.layer-index _ c.loop-layer-test.true l.store c.end_layer.new.store c.end_layer.ensures
          l.invariant.left;
    }
