-- What the numbers of a call stand for, and the numbers in which an attribute is answered.
use Rattle.std.specs.Prelude.{ℕ, ◌+◌, ◌-◌, ◌*◌, ◌^◌, Bool, true, false, ◌==◌, ℤ, pos, negsuc, List, [], ◌∷◌, find, slice_get}
use Rattle.std.specs.Prelude.{slice_index_or, Option, Some, None, if◌then◌else◌}
use Rattle.wf_words.specs.Options.{◌>>=◌}
use Rattle.wf_words.specs.Whole.{count_of}
use Rattle.wf_pixel.specs.Choice.{is_between, is_coordinate, most_extent}
use Rattle.wf_pixel.specs.declared.Rect.{Rect}
use Rattle.wf_pixel.specs.declared.Rgba.{Rgba}
use Rattle.wf_pixel.specs.declared.Rotation.{Rotation}
use Rattle.wf_pixel.specs.declared.Rotation.TheVariants.{R0, R90, R180, R270}
use Rattle.wf_pixel.specs.declared.Transparency.{Transparency}
use Rattle.wf_scene.specs.declared.style.Filter.{Filter}
use Rattle.wf_scene.specs.declared.style.Filter.TheVariants as filter

-- number i of a value
abbrev pub component : List ℤ → ℕ → ℤ
component value i = slice_index_or value i (pos 0)

-- ranges

-- a side of a rectangle, which may be 0
abbrev pub is_extent : ℤ → Bool
is_extent z = is_between (pos 0) (pos most_extent) z

abbrev pub is_channel : ℤ → Bool
is_channel z = is_between (pos 0) (pos 255) z

-- a number that a handle can be, or 0
abbrev pub is_handle : ℤ → Bool
is_handle z = is_between (pos 0) (pos (2 ^ 32 - 1)) z

-- from numbers to values, none outside the range

abbrev pub coordinate_of : ℤ → Option ℤ
coordinate_of z = if is_coordinate z then Some z else None

abbrev pub extent_of : ℤ → Option ℕ
extent_of z = if is_extent z then Some (count_of z) else None

-- the rectangle of x, y, width and height
abbrev pub rect_of : List ℤ → Option Rect
rect_of v = do
  x ← coordinate_of (component v 0)
  y ← coordinate_of (component v 1)
  w ← extent_of (component v 2)
  h ← extent_of (component v 3)
  Some (record { x = x; y = y; w = w; h = h })

abbrev pub channel_of : ℤ → Option ℕ
channel_of z = if is_channel z then Some (count_of z) else None

-- the colour of red, green, blue and alpha
abbrev pub colour_of : List ℤ → Option Rgba
colour_of v = do
  r ← channel_of (component v 0)
  g ← channel_of (component v 1)
  b ← channel_of (component v 2)
  a ← channel_of (component v 3)
  Some (record { r = r; g = g; b = b; a = a })

-- a whole number is this count
abbrev pub is_count : ℕ → ℤ → Bool
is_count n (pos m) = m == n
is_count n (negsuc m) = false

-- the first of some values whose number this is
abbrev pub with_number : {A : Type 0} → (A → ℕ) → List A → ℤ → Option A
with_number number values z = find (λ x. is_count (number x) z) values

abbrev pub flag_number : Bool → ℕ
flag_number true = 1
flag_number false = 0

abbrev pub flags : List Bool
flags = false ∷ true ∷ []

abbrev pub flag_of : ℤ → Option Bool
flag_of z = with_number flag_number flags z

-- a turn is told in degrees
abbrev pub degrees : Rotation → ℕ
degrees R0 = 0
degrees R90 = 90
degrees R180 = 180
degrees R270 = 270

abbrev pub turns : List Rotation
turns = R0 ∷ R90 ∷ R180 ∷ R270 ∷ []

abbrev pub turn_of : ℤ → Option Rotation
turn_of z = with_number degrees turns z

abbrev pub filter_number : Filter → ℕ
filter_number filter.None = 0
filter_number filter.Faster = 1
filter_number filter.Better = 2

abbrev pub filters : List Filter
filters = filter.None ∷ filter.Faster ∷ filter.Better ∷ []

abbrev pub filter_of : ℤ → Option Filter
filter_of z = with_number filter_number filters z

-- 1 is the layer's own alpha, 2 the source's, and 4 the mask's
abbrev pub transparency_number : Transparency → ℕ
transparency_number t = flag_number t.alpha + 2 * flag_number t.source + 4 * flag_number t.mask

abbrev pub kinds : Bool → Bool → Bool → Transparency
kinds alpha source mask = record { alpha = alpha; source = source; mask = mask }

-- the source's alpha and a mask do not apply together
abbrev pub transparencies : List Transparency
transparencies =
    kinds false false false ∷ kinds true false false ∷ kinds false true false
    ∷ kinds true true false ∷ kinds false false true ∷ kinds true false true ∷ []

abbrev pub transparency_of : ℤ → Option Transparency
transparency_of z = with_number transparency_number transparencies z

-- from values to the numbers that answer them

-- a whole number in 32 bits, a negative one in two's complement
abbrev pub word : ℤ → ℕ
word (pos n) = n
word (negsuc n) = 2 ^ 32 - 1 - n

abbrev pub rect_numbers : Rect → List ℕ
rect_numbers r = word r.x ∷ word r.y ∷ r.w ∷ r.h ∷ []

abbrev pub colour_numbers : Rgba → List ℕ
colour_numbers c = c.r ∷ c.g ∷ c.b ∷ c.a ∷ []

-- the number at an index, which counts from 0
abbrev pub at_index : ℤ → List ℕ → Option ℕ
at_index (pos i) numbers = slice_get numbers i
at_index (negsuc i) numbers = None
