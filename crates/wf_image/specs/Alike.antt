-- Rows of an image in which a paint names the same colours.
use Rattle.std.specs.Prelude.{◌≡◌, ℕ, List}
use Rattle.wf_pixel.specs.declared.Format.{Format}
use Rattle.wf_pixel.specs.declared.Size.{Size}
use Rattle.wf_image.specs.declared.paint.Paint.{Paint}
use Rattle.wf_image.specs.Paints.{named_colour, painted_row}

-- the bytes of a row that is painted already, in which the paint names the same colours as in row y
abbrev pub IsLike : Size → Format → Paint → ℕ → List ℕ → Type 0
IsLike size format paint y bytes =
    (row : List ℕ) × (z : ℕ) × ((x : ℕ) → named_colour paint size x z ≡ named_colour paint size x y)
    × (bytes ≡ painted_row size format row paint z)
