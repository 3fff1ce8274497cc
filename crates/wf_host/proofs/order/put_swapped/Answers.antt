use Rattle.std.proofs.Common.{◌∙◌, ◌+◌, ◌*◌, arith, refl}
use Rattle.std.proofs.lemmas.Simd.{length-put_chunk}
use Rattle.wf_host.specs.Rows.{swapped_pixel}
use Rattle.wf_host.proofs.RowsCopied.{no_pixel, pixel_more}
use Rattle.wf_host.proofs.order.put_swapped.Goals as goal

pub loop-x-init : goal.loop-x-init
loop-x-init c = (no_pixel c.args.row.now c.args.at c.args.out.now, refl)

pub loop-x-preserved : goal.loop-x-preserved
loop-x-preserved c =
    let x = c.loop-x.x in (
      pixel_more c.args.row.now c.args.at x (c.args.at + 4 * x) c.loop-x.out c.args.out.now _ c.loop-x.invariant.0 refl
          (omega (arith, c.requires, c.loop-x-test.true)) refl,
      length-put_chunk (c.args.at + 4 * x) c.loop-x.out (swapped_pixel c.args.row.now x) ∙ c.loop-x.invariant.1,
    )
