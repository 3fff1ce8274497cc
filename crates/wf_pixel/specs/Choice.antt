-- Small tests that the other definitions share.
use Rattle.std.specs.Prelude.{ℕ, ◌-◌, Bool, true, false, ◌&&◌, ◌==◌, nat_le, ℤ, pos, negsuc, int_le}
use Rattle.wf_pixel.specs.declared.Format.{Format}
use Rattle.wf_pixel.specs.declared.Format.TheVariants.{Rgba8, Rgba8Pre, Rgbx8, A8}
use Rattle.wf_pixel.specs.declared.Rgba.{Rgba}
use Rattle.wf_pixel.specs.declared.Size.{Size}
use Rattle.wf_pixel.specs.declared.TheConstants.{MOST_COORDINATE, MOST_SIDE}

-- a side of an image, of a mode or of a stream
abbrev pub is_side : ℕ → Bool
is_side n = nat_le 1 n && nat_le n MOST_SIDE

-- both sides are in their range
abbrev pub has_sides : Size → Bool
has_sides size = is_side size.w && is_side size.h

abbrev pub same_size : Size → Size → Bool
same_size s t = (s.w == t.w) && (s.h == t.h)

-- one format of the four
abbrev pub same_format : Format → Format → Bool
same_format Rgba8 Rgba8 = true
same_format Rgba8Pre Rgba8Pre = true
same_format Rgbx8 Rgbx8 = true
same_format A8 A8 = true
same_format _ _ = false

-- a whole number between two bounds, both included
abbrev pub is_between : ℤ → ℤ → ℤ → Bool
is_between low high z = int_le low z && int_le z high

-- the coordinates of a rectangle are between these, both included
abbrev pub least_coordinate : ℤ
least_coordinate = negsuc (MOST_COORDINATE - 1)

abbrev pub most_coordinate : ℤ
most_coordinate = pos MOST_COORDINATE

abbrev pub is_coordinate : ℤ → Bool
is_coordinate z = is_between least_coordinate most_coordinate z

-- and its sides are at most so long, before a side is asked for
abbrev pub most_extent : ℕ
most_extent = MOST_COORDINATE

-- opaque black
abbrev pub black : Rgba
black = record { r = 0; g = 0; b = 0; a = 255 }

-- a mask's format, which has one byte for each pixel
abbrev pub is_a8 : Format → Bool
is_a8 A8 = true
is_a8 _ = false
