use Rattle.std.proofs.Common.{◌≡◌, ℕ, ◌+◌, ◌*◌, List, true, false, sym, ap, ◌∙◌}
use Rattle.std.specs.Prelude.{Some}
use Rattle.std.specs.Option.{option_copied}
use Rattle.wf_pixel.specs.Arithmetic.{scaled}
use Rattle.wf_pixel.specs.declared.Format.TheVariants.{Rgba8Pre}
use Rattle.wf_image.specs.Bitmap.{read_at}
use Rattle.wf_row.specs.Bytes.{blended}
use Rattle.wf_kernel.specs.Bound.{Bound}
use Rattle.wf_kernel.specs.Placed.{source_colour, mask_value}
use Rattle.wf_kernel.specs.Laid.{mode_of, fade_of, lifted_pixel, lifted_texel, placed_texel}
use Rattle.wf_kernel.proofs.Pixels.{read_drawn}
use Rattle.wf_kernel.proofs.Shown.{unmasked, without_mask, with_mask}
use Rattle.wf_kernel.proofs.Laid.{laid_same, nothing_laid}
use Rattle.wf_kernel.proofs.Blended.{blended_laid}
use Rattle.wf_kernel.proofs.laying.lay_line.Goals as goal

pub returns-in_default : goal.returns-in_default
returns-in_default c =
    let s = c.args.stretch in
    let b = c.args.layer.now in
    let set : b.layer.transparency.mask ≡ true = ap (λ (b : Bound). b.layer.transparency.mask) (sym c.layer.view_is)
    ∙ c.if-transparency.true in
    let none = ap (λ (b : Bound). b.mask) (sym c.layer.view_is) ∙ ap option_copied c.in_default.is in
    nothing_laid s.len (λ i. placed_texel b c.args.image.now (s.across + i) s.down) c.args.part.now c.requires.count
    (λ i low. without_mask b c.args.image.now (s.across + i) s.down set none)

pub returns-in-Some : goal.returns-in-Some
returns-in-Some c =
    let s = c.args.stretch in
    let b = c.args.layer.now in
    let image = c.args.image.now in
    let mask = c.in-Some.mask.now in
    let set : b.layer.transparency.mask ≡ true = ap (λ (b : Bound). b.layer.transparency.mask) (sym c.layer.view_is)
    ∙ c.if-transparency.true in
    let some : b.mask ≡ Some mask = ap (λ (b : Bound). b.mask) (sym c.layer.view_is) ∙ ap option_copied c.in-Some.is in
    let mode : c.mode_of-mode.result ≡ mode_of image.format b.layer.transparency.source = c.mode_of-mode.ensures
    ∙ (λ i. mode_of (c.format.ensures i) (c.layer.view_is i).layer.transparency.source) in
    let fade : c.fade_of-fade.result ≡ fade_of b.layer.transparency.alpha b.layer.alpha = c.fade_of-fade.ensures
    ∙ ap (λ (b : Bound). fade_of b.layer.transparency.alpha b.layer.alpha) c.layer.view_is in
    c.lay_masked.ensures
    ∙ laid_same s.len
    (λ i. Some (scaled (lifted_pixel c.mode_of-mode.result c.fade_of-fade.result (read_at Rgba8Pre c.args.line.now (4 * i)))
    (mask_value b mask (s.across + i) s.down)))
    (λ i. placed_texel b image (s.across + i) s.down) c.args.part.now
    (λ i low.
    let read = ap (λ (bytes : List ℕ). read_at Rgba8Pre bytes (4 * i)) c.requires.line
    ∙ read_drawn s.len (λ i. source_colour b image (s.across + i) s.down) i low in
    (λ j. Some (scaled (lifted_pixel (mode j) (fade j) (read j)) (mask_value b mask (s.across + i) s.down)))
    ∙ with_mask b image mask (s.across + i) s.down set some)

pub returns-else-transparency : goal.returns-else-transparency
returns-else-transparency c =
    let s = c.args.stretch in
    let b = c.args.layer.now in
    let image = c.args.image.now in
    let set : b.layer.transparency.mask ≡ false = ap (λ (b : Bound). b.layer.transparency.mask) (sym c.layer.view_is)
    ∙ c.if-transparency.false in
    let mode : c.mode_of-mode.result ≡ mode_of image.format b.layer.transparency.source = c.mode_of-mode.ensures
    ∙ (λ i. mode_of (c.format.ensures i) (c.layer.view_is i).layer.transparency.source) in
    let fade : c.fade_of-fade.result ≡ fade_of b.layer.transparency.alpha b.layer.alpha = c.fade_of-fade.ensures
    ∙ ap (λ (b : Bound). fade_of b.layer.transparency.alpha b.layer.alpha) c.layer.view_is in
    c.blend_row.ensures
    ∙ (λ i. blended (mode i) (fade i) c.args.line.now c.args.part.now)
    ∙ blended_laid (mode_of image.format b.layer.transparency.source) (fade_of b.layer.transparency.alpha b.layer.alpha) s.len
    (λ i. source_colour b image (s.across + i) s.down) c.args.line.now c.args.part.now c.requires.line c.requires.count
    ∙ laid_same s.len (λ i. Some (lifted_texel b image (s.across + i) s.down)) (λ i. placed_texel b image (s.across + i) s.down)
    c.args.part.now
    (λ i low. unmasked b image (s.across + i) s.down set)
