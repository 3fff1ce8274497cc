-- Rows that are written at once.
use Rattle.std.specs.Prelude.{◌≡◌, ℕ, ◌+◌, false, Option, None, Some}
use Rattle.wf_pixel.specs.declared.Rotation.TheVariants.{R0}
use Rattle.wf_image.specs.Bitmap.{Bitmap}
use Rattle.wf_kernel.specs.Bound.{Bound}
use Rattle.wf_kernel.specs.Laid.{IsCopied}

-- a layer copies the rows of an image of w columns as they stand there, one behind the other
pub record IsLevel (b : Bound) (image : Bitmap) (w : ℕ) : Type 0 where
  pub copied : IsCopied b image
  pub whole : image.size.w ≡ w
  pub wide : b.layer.src.w ≡ b.layer.dest.w
  pub high : b.layer.src.h ≡ b.layer.dest.h
  pub flip : b.layer.flip ≡ false
  pub turn : b.turn ≡ R0
  pub layer_turn : b.layer.turn ≡ R0

-- how many layers count at least where the topmost one that hides the others is this one, or none hides them
abbrev pub lowest_top : Option ℕ → ℕ
lowest_top None = 0
lowest_top (Some j) = j + 1
