use Rattle.std.proofs.Common.{arith}
use Rattle.std.specs.Prelude.{◌≡◌}
use Rattle.wf_image.proofs.Spans.{starts, goes_on, is_painted}
use Rattle.wf_image.proofs.painting.paint_row.Goals as goal

pub loop-x-init : goal.loop-x-init
loop-x-init c =
    let span = c.span_of_row-start in
    starts c.args.size c.args.format c.args.row.now c.args.p.now c.args.y c.requires.count span.result.0 span.result.1 span.ensures.order
    span.ensures.within span.ensures.named

pub loop-x-preserved : goal.loop-x-preserved
loop-x-preserved c =
    goes_on c.args.size c.args.format c.args.row.now c.args.p.now c.args.y c.requires.count c.loop-x.x c.colour_at.result c.loop-x.row
    c.put_pixel.new.row c.colour_at.ensures c.loop-x.invariant c.put_pixel.ensures

pub returns : goal.returns
returns c =
    let span = c.span_of_row-start in
    let end : c.loop-x.x ≡ span.result.1 = omega arith in
    is_painted c.args.size c.args.format c.args.row.now c.args.p.now c.args.y c.requires.count span.result.0 span.result.1 c.loop-x.row
    span.ensures.within span.ensures.named (rw end at c.loop-x.invariant)
