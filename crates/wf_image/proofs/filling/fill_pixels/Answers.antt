use Rattle.std.proofs.Common.{arith, ◌+◌, ◌*◌, ◌/◌, refl, length}
use Rattle.std.specs.Prelude.{◌≡◌}
use Rattle.wf_pixel.specs.declared.Format.TheVariants.{Rgba8}
use Rattle.wf_image.specs.Bitmap.{stored}
use Rattle.wf_image.proofs.Fills.{fills_on, length-fours, all_filled, put_is, eight_of}
use Rattle.wf_image.proofs.filling.fill_pixels.Goals as goal

pub loop-block-preserved : goal.loop-block-preserved
loop-block-preserved c =
    let i = c.loop-block.block in
    let color = c.args.color in
    fills_on (stored Rgba8 color) (eight_of color) c.loop-block.bytes _ c.args.bytes.now (8 * i) 8 (8 * (i + 1)) (32 * i) (32 * (i + 1))
    (32 * (i + 1)) 32 refl (omega arith) (length-fours color (8 * i) (32 * i) (omega arith)) (omega arith) refl c.loop-block.invariant
    (put_is (32 * i) c.loop-block.bytes (eight_of color) (32 * (i + 1)) (omega arith) (omega arith))

pub loop-x-init : goal.loop-x-init
loop-x-init c =
    let end : c.loop-block.block ≡ length c.args.bytes.now / 32 = omega arith in
    let four : 4 * (8 * (length c.args.bytes.now / 32)) ≡ 32 * (length c.args.bytes.now / 32) = omega arith in
    rw four (rw end at c.loop-block.invariant)

pub loop-x-preserved : goal.loop-x-preserved
loop-x-preserved c =
    let x = c.loop-x.x in
    let color = c.args.color in
    fills_on (stored Rgba8 color) (stored Rgba8 color) c.loop-x.bytes c.put_four.new.row c.args.bytes.now x 1 (x + 1) (4 * x) (4 * x + 4)
    (4 * (x + 1)) 4 refl refl (length-fours color x (4 * x) refl) refl (omega arith) c.loop-x.invariant c.put_four.ensures

pub returns : goal.returns
returns c =
    let end : c.loop-x.x ≡ length c.args.bytes.now / 4 = omega arith in
    all_filled (stored Rgba8 c.args.color) c.loop-x.bytes c.args.bytes.now (length c.args.bytes.now / 4) (omega (arith, c.requires))
    (rw end at c.loop-x.invariant)
