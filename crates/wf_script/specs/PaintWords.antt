-- The words of a paint.
use Rattle.std.specs.Prelude.{ℕ, ◌+◌, ◌-◌, ◌*◌, ◌&&◌, nat_lt, nat_le, pos, List, [], ◌∷◌, length, codes, slice_index, Option, Some}
use Rattle.std.specs.Prelude.{None, option_map, Result, Ok, Err, if◌then◌else◌}
use Rattle.std.specs.Str.{byte}
use Rattle.wf_words.specs.Refusals.{◌>>=◌, refuse_if, found_or}
use Rattle.wf_words.specs.Whole.{count_of}
use Rattle.wf_pixel.specs.declared.Rgba.{Rgba}
use Rattle.wf_image.specs.declared.paint.Paint.{Paint}
use Rattle.wf_image.specs.declared.paint.Paint.TheVariants as paint
use Rattle.wf_script.specs.declared.paint_form.PaintForm.{PaintForm}
use Rattle.wf_script.specs.declared.paint_form.PaintForm.TheVariants as form
use Rattle.wf_script.specs.declared.rule.Rule.{Rule}
use Rattle.wf_script.specs.declared.rule.Rule.TheVariants as rule
use Rattle.wf_script.specs.Pick.{counted, first, first_as}
use Rattle.wf_script.specs.Words.{Word, count_in, integer_in, is_digit, look_up}
use Rattle.wf_pixel.specs.declared.TheConstants.{MOST_SIDE}
use Rattle.wf_script.specs.declared.TheConstants.{ROW_DIGITS}
use Rattle.wf_pixel.specs.Choice.{least_coordinate, most_coordinate, most_extent}

-- the paints
abbrev pub paint_forms : List (Word × PaintForm)
paint_forms =
    (codes "fill", form.Fill) ∷ (codes "box", form.Rectangle) ∷ (codes "checker", form.Checker) ∷ (codes "ramp", form.Ramp)
    ∷ (codes "row", form.Row) ∷ []

-- how many words stand behind a paint's word
abbrev pub paint_count : PaintForm → ℕ
paint_count form.Fill = 4
paint_count form.Rectangle = 8
paint_count form.Checker = 9
paint_count form.Ramp = 8
paint_count form.Row = 2

-- four numbers: red, green, blue and alpha
unfoldable pub color : List Word → Result (Rgba × List Word) Rule
color ws = do
  r ← first_as (count_in 0 255) ws
  g ← first_as (count_in 0 255) r.1
  b ← first_as (count_in 0 255) g.1
  a ← first_as (count_in 0 255) b.1
  Ok (record { r = r.0; g = g.0; b = b.0; a = a.0 }, a.1)

unfoldable pub fill : List Word → Result Paint Rule
fill ws = do
  c ← color ws
  Ok (paint.Fill c.0)

unfoldable pub rectangle : List Word → Result Paint Rule
rectangle ws = do
  x ← first_as (integer_in least_coordinate most_coordinate) ws
  y ← first_as (integer_in least_coordinate most_coordinate) x.1
  w ← first_as (count_in 0 most_extent) y.1
  h ← first_as (count_in 0 most_extent) w.1
  c ← color h.1
  Ok (paint.Rectangle (record { x = x.0; y = y.0; w = w.0; h = h.0 }) c.0)

unfoldable pub checker : List Word → Result Paint Rule
checker ws = do
  n ← first_as (count_in 1 MOST_SIDE) ws
  a ← color n.1
  b ← color a.1
  Ok (paint.Checker n.0 a.0 b.0)

unfoldable pub ramp : List Word → Result Paint Rule
ramp ws = do
  a ← color ws
  b ← color a.1
  Ok (paint.Ramp a.0 b.0)

abbrev pub hex_digit : ℕ → Option ℕ
hex_digit b =
    if is_digit b then Some (b - byte "0")
    else (if nat_le (byte "a") b && nat_le b (byte "f") then Some (b - byte "a" + 10)
    else (if nat_le (byte "A") b && nat_le b (byte "F") then Some (b - byte "A" + 10) else None))

unfoldable pub hex_byte : ℕ → ℕ → Result ℕ Rule
hex_byte high low = do
  h ← found_or rule.Word (hex_digit high)
  l ← found_or rule.Word (hex_digit low)
  Ok (h * 16 + l)

-- a pixel of 8 hexadecimal digits
unfoldable pub hex_pixel : List ℕ → Result Rgba Rule
hex_pixel digits = do
  r ← hex_byte (slice_index digits 0) (slice_index digits 1)
  g ← hex_byte (slice_index digits 2) (slice_index digits 3)
  b ← hex_byte (slice_index digits 4) (slice_index digits 5)
  a ← hex_byte (slice_index digits 6) (slice_index digits 7)
  Ok (record { r = r; g = g; b = b; a = a })

-- pixels, of which nothing is left over
unfoldable pub hex_pixels : Word → Result (List Rgba) Rule
hex_pixels [] = Ok []
hex_pixels (a ∷ b ∷ c ∷ d ∷ e ∷ f ∷ g ∷ h ∷ rest) = do
  pixel ← hex_pixel (a ∷ b ∷ c ∷ d ∷ e ∷ f ∷ g ∷ h ∷ [])
  pixels ← hex_pixels rest
  Ok (pixel ∷ pixels)
hex_pixels _ = Err rule.Word

-- the number of a row, which may have a minus before a zero
unfoldable pub row_number : Word → Option ℕ
row_number w = option_map count_of (integer_in (pos 0) (pos (MOST_SIDE - 1)) w)

-- a row, up to a whole one
unfoldable pub row : List Word → Result Paint Rule
row ws = do
  y ← first_as row_number ws
  hex ← first y.1
  _ ← refuse_if rule.Word (nat_lt ROW_DIGITS (length hex.0))
  pixels ← hex_pixels hex.0
  Ok (paint.Row y.0 pixels)

abbrev pub painted : PaintForm → List Word → Result Paint Rule
painted form.Fill = fill
painted form.Rectangle = rectangle
painted form.Checker = checker
painted form.Ramp = ramp
painted form.Row = row

-- a paint by its word, with as many words behind it as it has
unfoldable pub paint_of : List Word → Result Paint Rule
paint_of ws = do
  form ← first_as (look_up paint_forms) ws
  _ ← counted (paint_count form.0) form.1
  painted form.0 form.1
