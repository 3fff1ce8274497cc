use Rattle.std.proofs.Common.{length, ◌∙◌}
use Rattle.wf_kernel.specs.Bound.{bound_rows}
use Rattle.wf_kernel.proofs.Banded.{row_count}
use Rattle.wf_kernel.proofs.painting.paint_layers.Goals as goal

pub returns : goal.returns
returns g c =
    let scene = c.args.scene.now in
    let layers = c.as_slice.ensures.value ∙ c.bind_layers.ensures in
    let rows = row_count scene.size.w scene.size.h (length c.args.bytes.now) c.requires.fits.w c.requires.count in
    c.paint.ensures ∙ (λ i. bound_rows scene.size.w (layers i) scene.background 0 (rows i))
