-- Pixels that are put into a rectangle of an image.
use Rattle.std.specs.Prelude.{ℕ, ◌+◌, ◌*◌, ◌-◌, ◌==◌, ◌&&◌, Bool, nat_le, List, ◌++◌, length, take, drop, if◌then◌else◌}
use Rattle.wf_image.specs.Bitmap.{Bitmap, pixel_bytes}
use Rattle.wf_host.specs.Rows.{copied}
use Rattle.wf_host.specs.declared.order.Order.TheVariants as order
use Rattle.wf_serve.specs.declared.pixels.Rectangle.{Rectangle}

-- some pixels, at least one, from a place on lie in a side
abbrev pub fits_side : ℕ → ℕ → ℕ → Bool
fits_side from count side = nat_le 1 count && (nat_le count side && nat_le from (side - count))

-- the rectangle lies in the image, and these many bytes are its pixels
abbrev pub may_put : Bitmap → Rectangle → ℕ → Bool
may_put image r count =
    fits_side r.x r.w image.size.w && (fits_side r.y r.h image.size.h && (count == r.w * r.h * pixel_bytes image.format))

-- the image with these pixels in the rectangle, row by row
abbrev pub put_in : Rectangle → List ℕ → Bitmap → Bitmap
put_in r pixels image =
    let stride : ℕ = image.size.w * pixel_bytes image.format in
    let row : ℕ = r.w * pixel_bytes image.format in
    let at : ℕ = r.y * stride + r.x * pixel_bytes image.format in
    record image { bytes = take at image.bytes ++ copied order.Rgba stride row row r.h pixels (drop at image.bytes) }

-- and as it was where they are not
abbrev pub put : Rectangle → List ℕ → Bitmap → Bitmap
put r pixels image = if may_put image r (length pixels) then put_in r pixels image else image
