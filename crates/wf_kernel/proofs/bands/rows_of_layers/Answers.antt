use Rattle.std.proofs.Common.{◌∙◌}
use Rattle.wf_kernel.specs.Bound.{bound_rows}
use Rattle.wf_kernel.proofs.bands.rows_of_layers.Goals as goal

pub returns : goal.returns
returns g c =
    let scene = c.args.scene.now in
    let layers = c.as_slice-layers.ensures.value ∙ c.bind_layers.ensures in
    c.paint_band.ensures ∙ (λ i. bound_rows scene.size.w (layers i) scene.background 0 scene.size.h)
