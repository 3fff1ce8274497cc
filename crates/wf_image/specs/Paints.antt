-- What a paint leaves: the pixels that it names get its colours, and the others stay.
use Rattle.std.specs.Prelude.{List, ℕ, ◌+◌, ◌-◌, ◌*◌, ◌/◌, ◌%◌, ◌==◌, pos, Bool, true, nat_le, nat_lt, length, Option, Some, None}
use Rattle.std.specs.Prelude.{slice_get}
use Rattle.std.specs.Prelude.{unwrap_or, is_some, ◌&&◌, if◌then◌else◌}
use Rattle.wf_pixel.specs.declared.Size.{Size}
use Rattle.wf_pixel.specs.declared.Format.{Format}
use Rattle.wf_pixel.specs.declared.Rgba.{Rgba}
use Rattle.wf_pixel.specs.Along.{along}
use Rattle.wf_pixel.specs.Choice.{is_coordinate, most_extent}
use Rattle.wf_image.specs.declared.canvas.Canvas.{Canvas}
use Rattle.wf_image.specs.declared.paint.Paint.{Paint}
use Rattle.wf_image.specs.declared.paint.Paint.TheVariants.{Fill, Rectangle, Checker, Ramp, Row}
use Rattle.wf_image.specs.Bitmap.{Bitmap, pixel_bytes, read_at, pixel, drawn_row, drawn}
use Rattle.wf_pixel.specs.declared.TheConstants.{MOST_SIDE}

-- one channel of the ramp from c to d, at x of w columns
abbrev pub ramp_channel : ℕ → ℕ → ℕ → ℕ → ℕ
ramp_channel w x c d = if w == 1 then c else (c * (w - 1 - x) + d * x) / (w - 1)

abbrev pub ramp_colour : ℕ → ℕ → Rgba → Rgba → Rgba
ramp_colour w x c d =
    record {
      r = ramp_channel w x c.r d.r;
      g = ramp_channel w x c.g d.g;
      b = ramp_channel w x c.b d.b;
      a = ramp_channel w x c.a d.a;
    }

-- the colour that a paint names at (x, y), if it names one
abbrev pub named_colour : Paint → Size → ℕ → ℕ → Option Rgba
named_colour (Fill color) size x y = Some color
named_colour (Rectangle area color) size x y =
    if is_some (along area.x area.w (pos x)) && is_some (along area.y area.h (pos y)) then Some color else None
named_colour (Checker n first second) size x y =
    if (x / n + y / n) % 2 == 0 then Some first else Some second
named_colour (Ramp first second) size x y = Some (ramp_colour size.w x first second)
named_colour (Row row pixels) size x y = if row == y then slice_get pixels x else None

-- the bytes of row y after a paint
abbrev pub painted_row : Size → Format → List ℕ → Paint → ℕ → List ℕ
painted_row size format row paint y =
    drawn_row size.w format (λ x. unwrap_or (named_colour paint size x y) (read_at format row (x * pixel_bytes format)))

-- the bytes of an image after a paint
abbrev pub painted_bytes : Size → Format → List ℕ → Paint → List ℕ
painted_bytes size format bytes paint =
    (drawn size format (λ x y. unwrap_or (named_colour paint size x y)
    (pixel (record { size = size; format = format; bytes = bytes }) x y))).bytes

-- an image after a paint
abbrev pub painted : Bitmap → Paint → Bitmap
painted image paint =
    drawn image.size image.format (λ x y. unwrap_or (named_colour paint image.size x y) (pixel image x y))

-- a coordinate of a paint

-- the numbers of a paint are in their ranges
abbrev pub is_paint : Paint → Bool
is_paint (Fill color) = true
is_paint (Rectangle area color) =
    is_coordinate area.x && is_coordinate area.y && nat_le area.w most_extent && nat_le area.h most_extent
is_paint (Checker n first second) = nat_le 1 n && nat_le n MOST_SIDE
is_paint (Ramp first second) = true
is_paint (Row y pixels) = nat_lt y MOST_SIDE && nat_le 1 (length pixels) && nat_le (length pixels) MOST_SIDE

-- a canvas after a paint
abbrev pub painted_canvas : Paint → Canvas → Canvas
painted_canvas paint canvas = record canvas { image = painted canvas.image paint }
