use Rattle.std.proofs.Common.{arith, refl, ◌≤◌, length, take, sym, ◌∙◌}
use Rattle.std.proofs.lemmas.List.{take_all}
use Rattle.std.proofs.lemmas.List.Elements.{All-more, All-same}
use Rattle.wf_model.specs.Picture.{LayerFits}
use Rattle.cases_pictures.proofs.fitting.fits.Goals as goal

pub loop-layer-preserved : goal.loop-layer-preserved
loop-layer-preserved c =
    All-more (LayerFits c.args.contents.now) c.as_slice-layer-items.result.now c.loop-layer.layer-index _ c.loop-layer-test.true
    c.loop-layer.invariant (c.if-not-layer_fits.ensures refl)

pub returns : goal.returns
returns c =
    let layers = c.as_slice-layer-items.result.now in
    let end : length layers ≤ c.loop-layer.layer-index = omega arith in
    λ _. record {
      w = c.if-not-is_side.ensures refl;
      h = c.if-not-is_side-2.ensures refl;
      layers =
          All-same (LayerFits c.args.contents.now) c.args.scene.now.layers.items (take c.loop-layer.layer-index layers)
          (sym c.as_slice-layer-items.ensures.value ∙ sym (take_all c.loop-layer.layer-index layers end)) c.loop-layer.invariant;
    }
