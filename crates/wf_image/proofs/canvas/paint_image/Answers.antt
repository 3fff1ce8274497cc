use Rattle.std.proofs.Common.{◌∙◌, ap, length}
use Rattle.wf_image.proofs.Spans.{image_is_painted}
use Rattle.wf_image.proofs.canvas.paint_image.Goals as goal

pub returns : goal.returns
returns c = image_is_painted c.args.image.now c.args.p.now c.paint_bytes.new.bytes (c.paint_bytes.auto.bytes
    ∙ ap (λ l. length l) c.bytes_mut.ensures.value) (rw (c.size-size.ensures.size, c.format-format.ensures, c.bytes_mut.ensures.value) at
    c.paint_bytes.ensures)
