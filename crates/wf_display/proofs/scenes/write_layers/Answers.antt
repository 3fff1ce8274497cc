use Rattle.std.proofs.Common.{◌∙◌, ◌++◌, ◌∷◌, ap, arith, sym, take}
use Rattle.std.specs.Prelude.{filter_map, option_to_list}
use Rattle.wf_model.specs.Display.{pipeline_layer}
use Rattle.wf_display.proofs.PipelineLayersFit.{given_more}
use Rattle.wf_display.proofs.scenes.write_layers.Goals as goal

pub loop-pipeline-preserved : goal.loop-pipeline-preserved
loop-pipeline-preserved c =
    let f = pipeline_layer c.args.number in
    let xs = c.args.pipelines.now in
    let i = c.loop-pipeline.pipeline-index in
    let so_far = c.loop-pipeline.invariant in
    record {
      layers = c.push_layer.ensures.layers ∙ ap (λ ls. ls ++ option_to_list c.pipeline_layer.result) so_far.layers
          ∙ ap (λ o. (c.args.lowest ∷ filter_map f (take i xs)) ++ option_to_list o) c.pipeline_layer.ensures
          ∙ ap (λ ls. c.args.lowest ∷ ls) (sym (given_more f xs i _ c.loop-pipeline-test.true));
      room = omega (arith, c.push_layer.ensures.most, so_far.room);
    }
