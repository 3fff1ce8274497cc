-- An image: a size, a format and the bytes of its pixels, by rows from the top.
use Rattle.std.specs.Prelude.{◌≡◌, ℕ, ◌+◌, ◌*◌, List, [], ◌∷◌, flat_map, length, replicate, slice_index, IsTrue}
use Rattle.std.specs.List.{range_with_len}
use Rattle.wf_pixel.specs.declared.Size.{Size}
use Rattle.wf_pixel.specs.declared.Format.{Format}
use Rattle.wf_pixel.specs.declared.Format.TheVariants.{A8}
use Rattle.wf_pixel.specs.declared.Rgba.{Rgba}
use Rattle.wf_pixel.specs.Choice.{has_sides}

pub record Bitmap : Type 0 where
  pub size : Size
  pub format : Format
  pub bytes : List ℕ

-- how many bytes a pixel takes
abbrev pub pixel_bytes : Format → ℕ
pixel_bytes A8 = 1
pixel_bytes _ = 4

-- how many bytes an image takes
abbrev pub image_bytes : Size → Format → ℕ
image_bytes size format = size.w * size.h * pixel_bytes format

-- the sides are in their range, and there are as many bytes as size and format say
pub record IsWhole (image : Bitmap) : Type 0 where
  pub sides : IsTrue (has_sides image.size)
  pub count : length image.bytes ≡ image_bytes image.size image.format

-- the bytes in which a pixel is stored
abbrev pub stored : Format → Rgba → List ℕ
stored A8 c = c.a ∷ []
stored _ c = c.r ∷ c.g ∷ c.b ∷ c.a ∷ []

-- the pixel that starts at a byte
abbrev pub read_at : Format → List ℕ → ℕ → Rgba
read_at A8 bytes i = record { r = 0; g = 0; b = 0; a = slice_index bytes i }
read_at _ bytes i =
    record {
      r = slice_index bytes i;
      g = slice_index bytes (i + 1);
      b = slice_index bytes (i + 2);
      a = slice_index bytes (i + 3);
    }

-- the pixel at (x, y)
abbrev pub pixel : Bitmap → ℕ → ℕ → Rgba
pixel image x y = read_at image.format image.bytes ((y * image.size.w + x) * pixel_bytes image.format)

-- a row of w pixels
abbrev pub drawn_row : ℕ → Format → (ℕ → Rgba) → List ℕ
drawn_row w format colour = flat_map (λ x. stored format (colour x)) (range_with_len 0 w)

-- the image whose pixel at (x, y) is colour x y
unfoldable pub drawn : Size → Format → (ℕ → ℕ → Rgba) → Bitmap
drawn size format colour =
    record {
      size = size;
      format = format;
      bytes = flat_map (λ y. drawn_row size.w format (λ x. colour x y)) (range_with_len 0 size.h);
    }

-- all bytes zero
abbrev pub blank : Size → Format → Bitmap
blank size format = record { size = size; format = format; bytes = replicate (image_bytes size format) 0 }
