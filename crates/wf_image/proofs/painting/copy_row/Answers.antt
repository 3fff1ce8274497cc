use Rattle.std.proofs.Common.{◌∙◌}
use Rattle.wf_image.proofs.Spans.{row_alike}
use Rattle.wf_image.proofs.painting.copy_row.Goals as goal

pub returns : goal.returns
returns c =
    let span = c.span_of_row-start in
    (rw (c.bytes_of_pixel.ensures, c.bytes_of_pixel-2.ensures) at c.copy_bytes.ensures)
    ∙ row_alike c.args.size c.args.format c.args.bytes.now c.args.p.now c.args.y c.args.from c.args.to span.result.0 span.result.1
    c.requires.order c.requires.within span.ensures.order span.ensures.within span.ensures.named c.requires.like
