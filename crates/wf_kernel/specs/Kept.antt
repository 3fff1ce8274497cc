-- Pixels of a source that are kept for further rows of the target.
use Rattle.std.specs.Prelude.{◌≡◌, ℕ, ◌+◌, ◌*◌, ◌<◌, ◌≤◌, List, Some}
use Rattle.wf_pixel.specs.declared.Format.TheVariants.{Rgba8Pre}
use Rattle.wf_image.specs.Bitmap.{Bitmap, pixel, read_at}
use Rattle.wf_kernel.specs.declared.keeping.Kept.{Kept}
use Rattle.wf_kernel.specs.declared.keeping.Tag.{Tag}
use Rattle.wf_kernel.specs.Bound.{Bound, layer_at}
use Rattle.wf_kernel.specs.Placed.{across, down, source_colour}
use Rattle.wf_pixel.specs.declared.TheConstants.{MOST_SIDE}

-- the pixels that a layer shows in each row of the target that comes from one row of the source
abbrev pub IsLine : Bound → Bitmap → Tag → List ℕ → Type 0
IsLine b image tag line =
    (i d : ℕ) → i < tag.len → down b.turn b.layer d ≡ tag.other → read_at Rgba8Pre line (4 * i) ≡ source_colour b image (tag.across + i) d

-- eight columns of the source one after the other, at the source's rows that the columns of the target show
abbrev pub IsBlock : Bound → Bitmap → Tag → List ℕ → Type 0
IsBlock b image tag block =
    (i j : ℕ) → i < tag.len → j < 8
    → read_at Rgba8Pre block (4 * (tag.len * j + i)) ≡ pixel image (tag.other + j) (across b.turn b.layer (tag.across + i))

-- what is kept is what its tags say
pub record AreKept (layers : List Bound) (k : Kept) : Type 0 where
  pub line_len : k.line_of.len ≤ MOST_SIDE
  pub line : (image : Bitmap) → (layer_at layers k.line_of.layer).source ≡ Some image
      → IsLine (layer_at layers k.line_of.layer) image k.line_of k.line
  pub block_len : k.block_of.len ≤ MOST_SIDE
  pub block : (image : Bitmap) → (layer_at layers k.block_of.layer).source ≡ Some image
      → IsBlock (layer_at layers k.block_of.layer) image k.block_of k.block
