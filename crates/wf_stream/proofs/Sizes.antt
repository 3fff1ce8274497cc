-- The bytes of a stream.
use Rattle.std.proofs.Common.{ℕ, ◌*◌, ◌≤◌, IsTrue, arith}
use Rattle.std.proofs.Math.Nat.{mul-le-mul_left, mul-le-mul_right}
use Rattle.std.proofs.lemmas.Bool.Decides.{nat_tests}
use Rattle.wf_pixel.specs.declared.Size.{Size}
use Rattle.wf_pixel.specs.declared.Format.{Format}
use Rattle.wf_pixel.specs.declared.Format.TheVariants.{Rgba8, Rgba8Pre, Rgbx8, A8}
use Rattle.wf_pixel.specs.Choice.{has_sides}
use Rattle.wf_image.specs.Bitmap.{pixel_bytes}
use Rattle.wf_pixel.specs.declared.TheConstants.{MOST_SIDE}
use Rattle.wf_stream.specs.declared.TheConstants.{MOST_BUFFERS, STREAM_BYTES}

pixel_small : (format : Format) → pixel_bytes format ≤ 4
pixel_small Rgba8 = omega arith
pixel_small Rgba8Pre = omega arith
pixel_small Rgbx8 = omega arith
pixel_small A8 = omega arith

width_small : (size : Size) → IsTrue (has_sides size) → size.w ≤ MOST_SIDE
width_small size sides = grind (arith, nat_tests)

height_small : (size : Size) → IsTrue (has_sides size) → size.h ≤ MOST_SIDE
height_small size sides = grind (arith, nat_tests)

product_small : (w h p b : ℕ) → w ≤ MOST_SIDE → h ≤ MOST_SIDE → p ≤ 4 → b ≤ MOST_BUFFERS → w * h * p * b ≤ STREAM_BYTES
product_small w h p b ws hs ps bs =
    omega (arith, mul-le-mul_right h ws, mul-le-mul_left (w * h) ps, mul-le-mul_left (w * h * p) bs)

-- no stream has more than 36 MiB
pub stream_small : (size : Size) (format : Format) (buffers : ℕ) → IsTrue (has_sides size) → buffers ≤ MOST_BUFFERS
    → size.w * size.h * pixel_bytes format * buffers ≤ STREAM_BYTES
stream_small size format buffers sides most =
    product_small size.w size.h (pixel_bytes format) buffers (width_small size sides) (height_small size sides) (pixel_small format) most
