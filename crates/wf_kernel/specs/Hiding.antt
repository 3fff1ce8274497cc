-- Layers that hide what is below them.
use Rattle.std.specs.Prelude.{◌≡◌, ℕ, ◌+◌, ◌<◌, ◌==◌, ◌&&◌, Bool, true, false, if◌then◌else◌, Option, None, Some}
use Rattle.wf_pixel.specs.declared.Rgba.{Rgba}
use Rattle.wf_pixel.specs.declared.Format.{Format}
use Rattle.wf_pixel.specs.declared.Format.TheVariants.{Rgbx8}
use Rattle.wf_scene.specs.declared.Layer.{Layer}
use Rattle.wf_kernel.specs.Bound.{Bound, bound_texel}
use Rattle.wf_kernel.specs.Placed.{column_of, row_of}

-- a texel of alpha 255
pub record IsOpaque (texel : Option Rgba) : Type 0 where
  pub colour : Rgba
  pub is : texel ≡ Some colour
  pub alpha : colour.a ≡ 255

-- the layer shows an opaque texel at each of w pixels of row y, from column `first` on
abbrev pub IsCover : Bound → ℕ → ℕ → ℕ → Type 0
IsCover b first w y = (x : ℕ) → x < w → IsOpaque (bound_texel b (first + x) y)

-- the layer shows nothing at w pixels of row y, from column `first` on
abbrev pub IsBeside : Bound → ℕ → ℕ → ℕ → Type 0
IsBeside b first w y = (x : ℕ) → x < w → bound_texel b (first + x) y ≡ None

-- the layer shows an opaque texel at each point of its destination
abbrev pub HidesBelow : Bound → Type 0
HidesBelow b =
    (x a y d : ℕ) → column_of b x ≡ Some a → row_of b y ≡ Some d → IsOpaque (bound_texel b x y)

-- alpha is read as 255
abbrev pub is_rgbx : Format → Bool
is_rgbx Rgbx8 = true
is_rgbx _ = false

-- the layer's texels have alpha 255 where it has no mask
abbrev pub stays_opaque : Layer → Format → Bool
stays_opaque l format =
    (if l.transparency.source then is_rgbx format else true) && (if l.transparency.alpha then l.alpha == 255 else true)
