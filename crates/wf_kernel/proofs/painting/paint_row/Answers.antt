use Rattle.std.proofs.Common.{◌≡◌, ◌-◌, ◌∙◌, arith, zero-add}
use Rattle.wf_pixel.specs.declared.Format.TheVariants.{Rgba8Pre}
use Rattle.wf_image.specs.Bitmap.{drawn_row}
use Rattle.wf_kernel.specs.Bound.{bound_colour}
use Rattle.wf_kernel.proofs.painting.paint_row.Goals as goal

pub returns-clause-row : goal.returns-clause-row
returns-clause-row c =
    let all : c.args.width - 0 ≡ c.args.width = omega arith in
    c.paint_piece.ensures.row
    ∙ (λ i. drawn_row (all i) Rgba8Pre (λ x. bound_colour c.args.layers.now c.args.background (zero-add x i) c.args.y))
