-- The paints of messages, by the bits of their arguments. A number outside of its range, which no argument is, would be the next one in it.
use Rattle.std.specs.Prelude.{ℕ, ◌+◌, ◌%◌, max, min, ℤ, List}
use Rattle.std.specs.Int.{int_max, int_min}
use Rattle.wf_pixel.specs.Choice.{least_coordinate, most_coordinate, most_extent}
use Rattle.wf_pixel.specs.declared.Rgba.{Rgba}
use Rattle.wf_pixel.specs.declared.TheConstants.{MOST_SIDE}
use Rattle.wf_image.specs.declared.paint.Paint.{Paint}
use Rattle.wf_image.specs.declared.paint.Paint.TheVariants as paint
use Rattle.wf_wire.specs.Bits.{bit_at, number_at}

abbrev pub channel_at : List ℕ → ℕ → ℕ
channel_at bits place = bit_at bits place % 256

abbrev pub color_at : List ℕ → ℕ → Rgba
color_at bits place =
    record {
      r = channel_at bits place;
      g = channel_at bits (place + 1);
      b = channel_at bits (place + 2);
      a = channel_at bits (place + 3);
    }

abbrev pub coordinate_at : List ℕ → ℕ → ℤ
coordinate_at bits place = int_max least_coordinate (int_min (number_at bits place) most_coordinate)

abbrev pub extent_at : List ℕ → ℕ → ℕ
extent_at bits place = min (bit_at bits place) most_extent

abbrev pub square_at : List ℕ → ℕ → ℕ
square_at bits place = max 1 (min (bit_at bits place) MOST_SIDE)

abbrev pub fill : List ℕ → Paint
fill bits = paint.Fill (color_at bits 0)

abbrev pub rectangle : List ℕ → Paint
rectangle bits =
    paint.Rectangle
    (record { x = coordinate_at bits 0; y = coordinate_at bits 1; w = extent_at bits 2; h = extent_at bits 3 })
    (color_at bits 4)

abbrev pub checker : List ℕ → Paint
checker bits = paint.Checker (square_at bits 0) (color_at bits 1) (color_at bits 5)

abbrev pub ramp : List ℕ → Paint
ramp bits = paint.Ramp (color_at bits 0) (color_at bits 4)
