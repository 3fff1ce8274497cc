use Rattle.std.proofs.Common.{arith, ◌∙◌}
use Rattle.std.specs.Prelude.{◌≡◌}
use Rattle.wf_image.proofs.Spans.{row_at, row_above, goes_on_rows, are_painted}
use Rattle.wf_image.proofs.painting.paint_rows.Goals as goal
use Rattle.wf_image.proofs.painting.paint_rows.Goals.{then-like-y, else-like-y}

pub copy_row-requires-clause-like : goal.copy_row-requires-clause-like
copy_row-requires-clause-like c =
    let z = c.row_like-like.result in (
      row_at c.args.size c.args.format c.args.bytes.now z,
      z,
      (λ x. c.row_like-like.ensures.same c.args.size x),
      rw c.bytes_of_pixel.ensures (row_above c.args.size c.args.format c.args.bytes.now c.args.p.now z c.loop-y.y c.loop-y.bytes
          c.if-like-y.true c.loop-y.invariant),
    )

pub loop-y-preserved : goal.loop-y-preserved
loop-y-preserved c =
    elim c.if-like-y.branch [
      | then-like-y w ↦
          rw w.bytes-is (goes_on_rows c.args.size c.args.format c.args.bytes.now c.args.p.now c.loop-y.y c.loop-y.bytes w.copy_row.new.bytes
          c.loop-y.invariant (rw c.bytes_of_pixel.ensures at w.copy_row.ensures))
      | else-like-y w ↦
          rw w.bytes-is (goes_on_rows c.args.size c.args.format c.args.bytes.now c.args.p.now c.loop-y.y c.loop-y.bytes
          w.paint_row_at.new.bytes c.loop-y.invariant (rw c.bytes_of_pixel.ensures at w.paint_row_at.ensures))
    ]

pub returns : goal.returns
returns c =
    let end : c.loop-y.y ≡ c.args.size.h = omega arith in
    are_painted c.args.size c.args.format c.args.bytes.now c.args.p.now c.loop-y.bytes (c.requires.count ∙ omega arith)
    (rw end at c.loop-y.invariant)
