-- Layers whose pixels are copied.
use Rattle.std.proofs.Common.{◌≡◌, ℕ, ◌+◌, ◌*◌, List, Bool, length, sym, ap, ◌∙◌}
use Rattle.std.specs.Prelude.{None, Some}
use Rattle.wf_pixel.specs.declared.Format.TheVariants.{Rgba8Pre}
use Rattle.wf_image.specs.Bitmap.{Bitmap, drawn_row}
use Rattle.wf_row.specs.declared.AlphaMode.TheVariants.{Opaque}
use Rattle.wf_row.specs.Bytes.{blended}
use Rattle.wf_kernel.specs.declared.stretch.Stretch.{Stretch}
use Rattle.wf_kernel.specs.Bound.{Bound}
use Rattle.wf_kernel.specs.Placed.{source_colour}
use Rattle.wf_kernel.specs.Laid.{IsCopied, fade_of, laid, lifted_texel, mode_of, placed_texel}
use Rattle.wf_kernel.proofs.Blended.{blended_laid}
use Rattle.wf_kernel.proofs.Laid.{laid_same}
use Rattle.wf_kernel.proofs.Shown.{unmasked}

-- the source's pixels, made opaque, are the layer that is laid
pub copied_laid : (b : Bound) (image : Bitmap) (s : Stretch) (line part : List ℕ) → IsCopied b image
    → line ≡ drawn_row s.len Rgba8Pre (λ i. source_colour b image (s.across + i) s.down) → length part ≡ 4 * s.len
    → blended Opaque None line part ≡ laid s.len (λ i. placed_texel b image (s.across + i) s.down) part
copied_laid b image s line part copied line_is count =
    let fade : None ≡ fade_of b.layer.transparency.alpha b.layer.alpha =
    ap (λ (applies : Bool). fade_of applies b.layer.alpha) (sym copied.alpha) in
    (λ i. blended (sym copied.mode i) (fade i) line part)
    ∙ blended_laid (mode_of image.format b.layer.transparency.source) (fade_of b.layer.transparency.alpha b.layer.alpha) s.len
    (λ i. source_colour b image (s.across + i) s.down) line part line_is count
    ∙ laid_same s.len (λ i. Some (lifted_texel b image (s.across + i) s.down)) (λ i. placed_texel b image (s.across + i) s.down) part
    (λ i low. unmasked b image (s.across + i) s.down copied.mask)
