use Rattle.std.proofs.Common.{arith, ◌≡◌, ◌+◌, ◌-◌, ◌*◌, ap, ◌∙◌}
use Rattle.wf_image.proofs.Spans.{row_in_place}
use Rattle.wf_image.proofs.painting.paint_row_at.Goals as goal

pub returns : goal.returns
returns c =
    let stride : c.args.at + c.args.size.w * c.bytes_of_pixel.result - c.args.at ≡ c.args.size.w * c.bytes_of_pixel.result = omega arith in
    row_in_place c.args.size c.args.format c.args.bytes.now c.paint_row.new.row c.args.p.now c.args.y c.args.at
    (c.args.at + c.args.size.w * c.bytes_of_pixel.result - c.args.at) (stride ∙ ap (λ n. c.args.size.w * n) c.bytes_of_pixel.ensures)
    c.paint_row.ensures
