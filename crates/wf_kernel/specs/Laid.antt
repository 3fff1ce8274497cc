-- A row of pixels with a layer laid over it.
use Rattle.std.specs.Prelude.{◌≡◌, ℕ, ◌+◌, ◌*◌, ◌<◌, ◌≤◌, List, Option, None, Some, Bool, true, false, if◌then◌else◌}
use Rattle.wf_words.specs.Options.{◌>>=◌}
use Rattle.wf_pixel.specs.declared.Rgba.{Rgba}
use Rattle.wf_pixel.specs.declared.Format.{Format}
use Rattle.wf_pixel.specs.declared.Format.TheVariants.{Rgba8, Rgba8Pre}
use Rattle.wf_pixel.specs.Arithmetic.{mul, scaled, opaque}
use Rattle.wf_row.specs.declared.AlphaMode.{AlphaMode}
use Rattle.wf_row.specs.declared.AlphaMode.TheVariants.{Premultiplied, Straight, Opaque}
use Rattle.wf_image.specs.Bitmap.{Bitmap, read_at, drawn_row}
use Rattle.wf_model.specs.Picture.{on_top}
use Rattle.wf_kernel.specs.declared.stretch.Stretch.{Stretch}
use Rattle.wf_kernel.specs.Bound.{Bound, bound_texel}
use Rattle.wf_kernel.specs.Placed.{placed, column_of, row_of, source_colour, mask_value}
use Rattle.wf_pixel.specs.declared.TheConstants.{MOST_SIDE}

-- w pixels of a row, each with the texel at its place over it where there is one
abbrev pub laid : ℕ → (ℕ → Option Rgba) → List ℕ → List ℕ
laid w texel row = drawn_row w Rgba8Pre (λ x. on_top (texel x) (read_at Rgba8Pre row (4 * x)))

-- pixels of a row of the target that a layer covers: where they lie on the target, and how far from the layer's corner
pub record IsStretch (b : Bound) (s : Stretch) : Type 0 where
  pub some : 1 ≤ s.len
  pub high : s.x + s.len ≤ MOST_SIDE
  pub inside : s.across + s.len ≤ (placed b).w
  pub below : s.down < (placed b).h
  pub columns : (i : ℕ) → i < s.len → column_of b (s.x + i) ≡ Some (s.across + i)
  pub row : row_of b s.y ≡ Some s.down

-- the pixels of a piece of row y that a layer covers, of which the piece has `width` from column `first` on
pub record IsStretchIn (b : Bound) (first width y : ℕ) (s : Stretch) : Type 0 where
  pub stretch : IsStretch b s
  pub row : s.y ≡ y
  pub start : first ≤ s.x
  pub end : s.x + s.len ≤ first + width
  pub before : (j : ℕ) → first + j < s.x → bound_texel b (first + j) y ≡ None
  pub behind : (j : ℕ) → s.x + s.len ≤ first + j → j < width → bound_texel b (first + j) y ≡ None

-- a pixel as a premultiplied one, by the alpha that it stores, or opaque
abbrev pub mode_pixel : AlphaMode → Rgba → Rgba
mode_pixel Premultiplied c = c
mode_pixel Straight c = record { r = mul c.r c.a; g = mul c.g c.a; b = mul c.b c.a; a = c.a }
mode_pixel Opaque c = opaque c

-- the same, times k where it is faded
abbrev pub lifted_pixel : AlphaMode → Option ℕ → Rgba → Rgba
lifted_pixel mode (Some k) c = scaled (mode_pixel mode c) k
lifted_pixel mode None c = mode_pixel mode c

-- how the alpha of a source counts, which is asked for its own alpha or not
abbrev pub mode_of : Format → Bool → AlphaMode
mode_of Rgba8Pre true = Premultiplied
mode_of Rgba8 true = Straight
mode_of _ _ = Opaque

-- a layer's alpha, where it applies
abbrev pub fade_of : Bool → ℕ → Option ℕ
fade_of true k = Some k
fade_of false k = None

-- the pixels of a layer's source are copied: no mask and no alpha makes them transparent
pub record IsCopied (b : Bound) (image : Bitmap) : Type 0 where
  pub mask : b.layer.transparency.mask ≡ false
  pub alpha : b.layer.transparency.alpha ≡ false
  pub mode : mode_of image.format b.layer.transparency.source ≡ Opaque

-- the premultiplied pixel of a layer at distances from its corner, before its mask
abbrev pub lifted_texel : Bound → Bitmap → ℕ → ℕ → Rgba
lifted_texel b image a d =
    lifted_pixel (mode_of image.format b.layer.transparency.source) (fade_of b.layer.transparency.alpha b.layer.alpha)
    (source_colour b image a d)

-- the texel of a layer at these distances, or none where its mask has no image
abbrev pub placed_texel : Bound → Bitmap → ℕ → ℕ → Option Rgba
placed_texel b image a d =
    if b.layer.transparency.mask then b.mask >>= (λ m. Some (scaled (lifted_texel b image a d) (mask_value b m a d)))
    else Some (lifted_texel b image a d)
