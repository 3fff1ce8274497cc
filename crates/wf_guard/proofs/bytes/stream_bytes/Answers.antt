use Rattle.std.proofs.Common.{ℕ, ◌+◌, ◌*◌, ◌≤◌, arith}
use Rattle.std.proofs.Math.Nat.{mul-le-mul_left, mul-le-mul_right}
use Rattle.wf_pixel.specs.declared.Format.{Format}
use Rattle.wf_pixel.specs.declared.Format.TheVariants.{Rgba8, Rgba8Pre, Rgbx8, A8}
use Rattle.wf_pixel.specs.declared.TheConstants.{MOST_SIDE}
use Rattle.wf_image.specs.Bitmap.{pixel_bytes}
use Rattle.wf_guard.proofs.bytes.stream_bytes.Goals as goal
use Rattle.wf_guard.proofs.bytes.stream_bytes.Goals.{then-queue, else-queue}

pixel_small : (format : Format) → pixel_bytes format ≤ 4
pixel_small Rgba8 = omega arith
pixel_small Rgba8Pre = omega arith
pixel_small Rgbx8 = omega arith
pixel_small A8 = omega arith

product_small : (w h p b : ℕ) → w ≤ MOST_SIDE → h ≤ MOST_SIDE → p ≤ 4 → b ≤ MOST_SIDE + 1
    → w * h * p * b ≤ MOST_SIDE * MOST_SIDE * 4 * (MOST_SIDE + 1)
product_small w h p b ws hs ps bs =
    omega (arith, mul-le-mul_right h ws, mul-le-mul_left (w * h) ps, mul-le-mul_left (w * h * p) bs)

pub overflow_mul-result-3 : goal.overflow_mul-result-3
overflow_mul-result-3 c =
    let few : c.if-queue.buffers ≤ MOST_SIDE + 1 = elim c.if-queue.branch [ then-queue w ↦ omega arith | else-queue w ↦ omega arith ] in
    let pixel = pixel_small c.args.format in
    let small = product_small c.count-2.result c.count-3.result c.bytes_of_pixel.result c.if-queue.buffers c.count-2.ensures.most
    c.count-3.ensures.most (omega (arith, pixel)) few in
    omega (arith, small)
