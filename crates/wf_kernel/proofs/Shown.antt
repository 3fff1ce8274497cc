-- What a layer shows at a pixel of the target.
use Rattle.std.proofs.Common.{◌≡◌, ℕ, ◌<◌, Bool, true, false, ℤ, pos, refl, sym, ap, subst, ◌∙◌, arith}
use Rattle.std.specs.Prelude.{◌≢◌, Option, None, Some, IfSome, IsTrue, option_and_then, option_map, if◌then◌else◌}
use Rattle.wf_words.specs.Options.{◌>>=◌}
use Rattle.wf_pixel.specs.declared.Rgba.{Rgba}
use Rattle.wf_pixel.specs.declared.Format.{Format}
use Rattle.wf_pixel.specs.declared.Format.TheVariants.{Rgba8, Rgba8Pre, Rgbx8, A8}
use Rattle.wf_pixel.specs.Along.{along}
use Rattle.wf_pixel.specs.Arithmetic.{lift, scaled}
use Rattle.wf_pixel.specs.Place.{turned_back, size_of, source_pixel}
use Rattle.wf_image.specs.Bitmap.{Bitmap, pixel}
use Rattle.wf_scene.specs.declared.Layer.{Layer}
use Rattle.wf_scene.specs.Layers.{holds_rect}
use Rattle.wf_model.specs.Picture.{mask_of, texel_of}
use Rattle.wf_kernel.specs.Bound.{Bound, IsShowable, point_of, texel_in, bound_texel}
use Rattle.wf_kernel.specs.Placed.{placed, column_of, row_of, source_place, mask_value}
use Rattle.wf_kernel.specs.Laid.{mode_of, fade_of, lifted_pixel, lifted_texel, placed_texel}
use Rattle.wf_kernel.proofs.Placed.{IsOutside, beside, above, place_is, placed_along, back_low, source_low, holds_x, holds_y, beside_target}
use Rattle.wf_kernel.proofs.Placed.{above_target}
use Rattle.wf_kernel.proofs.Reaches.{cut_in, cut_none, cut_some}

-- the texel by the distances from the destination's corner, where the mask has this value
abbrev pub texel_by : Layer → Bitmap → Option ℕ → Option ℕ → Option ℕ → Option Rgba
texel_by l image value dx dy =
    option_and_then (λ d. option_map (source_pixel l.src l.flip l.turn l.dest d) dy) dx
    >>= (λ p. value >>= (λ m. Some (lift (pixel image p.0 p.1) image.format l.transparency l.alpha m)))

-- ---- nothing shows outside of the destination
outside : (l : Layer) (source : Option Bitmap) (value : Option ℕ) (p : ℤ × ℤ) → IsOutside l.dest p → texel_of l source value p.0 p.1 ≡ None
outside l None value p (beside e) =
    let empty : Option Rgba = None in
    ap (λ (dx : Option ℕ). option_and_then (λ d. option_map (source_pixel l.src l.flip l.turn l.dest d) (along l.dest.y l.dest.h p.1)) dx
    >>= (λ p. empty)) e
outside l (Some image) value p (beside e) = ap (λ (dx : Option ℕ). texel_by l image value dx (along l.dest.y l.dest.h p.1)) e
outside l None value p (above e) =
    let empty : Option Rgba = None in
    ap (λ (dy : Option ℕ). option_and_then (λ d. option_map (source_pixel l.src l.flip l.turn l.dest d) dy) (along l.dest.x l.dest.w p.0)
    >>= (λ p. empty)) e
    ∙ no_place l (along l.dest.x l.dest.w p.0)
  where
    no_place : (l : Layer) (dx : Option ℕ)
        → (option_and_then (λ d. option_map (source_pixel l.src l.flip l.turn l.dest d) None) dx >>= (λ p. let empty : Option Rgba = None in
        empty)) ≡ None
    no_place l None = refl
    no_place l (Some d) = refl
outside l (Some image) value p (above e) =
    ap (λ (dy : Option ℕ). texel_by l image value (along l.dest.x l.dest.w p.0) dy) e
    ∙ none_above l image value (along l.dest.x l.dest.w p.0)
  where
    none_above : (l : Layer) (image : Bitmap) (value dx : Option ℕ) → texel_by l image value dx None ≡ None
    none_above l image value None = refl
    none_above l image value (Some d) = refl

pub bound_beside : (b : Bound) (x y : ℕ) → column_of b x ≡ None → bound_texel b x y ≡ None
bound_beside b x y e =
    let p : ℤ × ℤ = point_of b.turn b.space x y in
    cut_none b.left b.right x (texel_in b p)
    (λ low high. outside b.layer b.source (mask_of b.layer b.mask p.0 p.1) p
    (beside_target b.turn b.space b.layer.dest x y
    (sym (cut_in b.left b.right x (along (placed b).x (placed b).w (pos x)) low high) ∙ e)))

pub bound_above : (b : Bound) (x y : ℕ) → row_of b y ≡ None → bound_texel b x y ≡ None
bound_above b x y e =
    let p : ℤ × ℤ = point_of b.turn b.space x y in
    cut_none b.left b.right x (texel_in b p)
    (λ low high. outside b.layer b.source (mask_of b.layer b.mask p.0 p.1) p (above_target b.turn b.space b.layer.dest x y e))

-- nor without an image
pub bound_nothing : (b : Bound) (x y : ℕ) → b.source ≡ None → bound_texel b x y ≡ None
bound_nothing b x y none =
    let p : ℤ × ℤ = point_of b.turn b.space x y in
    cut_none b.left b.right x (texel_in b p)
    (λ low high. ap (λ (s : Option Bitmap). texel_of b.layer s (mask_of b.layer b.mask p.0 p.1) p.0 p.1) none
    ∙ no_image
    (option_and_then (λ d. option_map (source_pixel b.layer.src b.layer.flip b.layer.turn b.layer.dest d)
    (along b.layer.dest.y b.layer.dest.h p.1)) (along b.layer.dest.x b.layer.dest.w p.0)))
  where
    no_image : (place : Option (ℕ × ℕ)) → (place >>= (λ p. let empty : Option Rgba = None in empty)) ≡ None
    no_image None = refl
    no_image (Some p) = refl

-- ---- the pixel lifted
lift_is : (c : Rgba) (format : Format) (alpha source : Bool) (k : ℕ) → format ≢ A8
    → lift c format (record { alpha = alpha; source = source; mask = false }) k 255
    ≡ lifted_pixel (mode_of format source) (fade_of alpha k) c
lift_is c Rgba8 true true k n = refl
lift_is c Rgba8 true false k n = refl
lift_is c Rgba8 false true k n = refl
lift_is c Rgba8 false false k n = refl
lift_is c Rgba8Pre true true k n = refl
lift_is c Rgba8Pre true false k n = refl
lift_is c Rgba8Pre false true k n = refl
lift_is c Rgba8Pre false false k n = refl
lift_is c Rgbx8 true true k n = refl
lift_is c Rgbx8 true false k n = refl
lift_is c Rgbx8 false true k n = refl
lift_is c Rgbx8 false false k n = refl
lift_is c A8 alpha source k n = absurd (n refl)

lift_masked : (c : Rgba) (format : Format) (alpha source : Bool) (k m : ℕ) → format ≢ A8
    → lift c format (record { alpha = alpha; source = source; mask = true }) k m
    ≡ scaled (lifted_pixel (mode_of format source) (fade_of alpha k) c) m
lift_masked c Rgba8 true true k m n = refl
lift_masked c Rgba8 true false k m n = refl
lift_masked c Rgba8 false true k m n = refl
lift_masked c Rgba8 false false k m n = refl
lift_masked c Rgba8Pre true true k m n = refl
lift_masked c Rgba8Pre true false k m n = refl
lift_masked c Rgba8Pre false true k m n = refl
lift_masked c Rgba8Pre false false k m n = refl
lift_masked c Rgbx8 true true k m n = refl
lift_masked c Rgbx8 true false k m n = refl
lift_masked c Rgbx8 false true k m n = refl
lift_masked c Rgbx8 false false k m n = refl
lift_masked c A8 alpha source k m n = absurd (n refl)

-- ---- the texel inside of the destination
abbrev by_mask : Bound → Bool → Bound
by_mask b set = record b { layer = record b.layer { transparency = record b.layer.transparency { mask = set } } }

-- by the place of the source's pixel
texel_at_place : (b : Bound) (set : Bool) (image : Bitmap) (mask : Option Bitmap) (p : ℤ × ℤ) (dx dy : ℕ) → image.format ≢ A8
    → along b.layer.dest.x b.layer.dest.w p.0 ≡ Some dx → along b.layer.dest.y b.layer.dest.h p.1 ≡ Some dy
    → texel_of (by_mask b set).layer (Some image) (mask_of (by_mask b set).layer mask p.0 p.1) p.0 p.1
    ≡ (if set then mask >>=
    (λ m. Some
    (scaled (lifted_pixel (mode_of image.format b.layer.transparency.source) (fade_of b.layer.transparency.alpha b.layer.alpha)
    (pixel image (source_pixel b.layer.src b.layer.flip b.layer.turn b.layer.dest dx dy).0
    (source_pixel b.layer.src b.layer.flip b.layer.turn b.layer.dest dx dy).1)) (pixel m dx dy).a))
    else Some (lifted_pixel (mode_of image.format b.layer.transparency.source) (fade_of b.layer.transparency.alpha b.layer.alpha)
    (pixel image (source_pixel b.layer.src b.layer.flip b.layer.turn b.layer.dest dx dy).0
    (source_pixel b.layer.src b.layer.flip b.layer.turn b.layer.dest dx dy).1)))
texel_at_place b false image mask p dx dy colours ex ey =
    let l : Layer = (by_mask b false).layer in
    let place : ℕ × ℕ = source_pixel l.src l.flip l.turn l.dest dx dy in
    (λ i. texel_by l image (Some 255) (ex i) (ey i))
    ∙ ap Some (lift_is (pixel image place.0 place.1) image.format l.transparency.alpha l.transparency.source l.alpha colours)
texel_at_place b true image None p dx dy colours ex ey =
    (λ i. texel_by (by_mask b true).layer image None (ex i) (ey i))
texel_at_place b true image (Some m) p dx dy colours ex ey =
    let l : Layer = (by_mask b true).layer in
    let place : ℕ × ℕ = source_pixel l.src l.flip l.turn l.dest dx dy in
    (λ i. texel_by l image (ex i >>= (λ d. ey i >>= (λ e. Some (pixel m d e).a))) (ex i) (ey i))
    ∙ ap Some (lift_masked (pixel image place.0 place.1) image.format l.transparency.alpha l.transparency.source l.alpha (pixel m dx dy).a
    colours)

-- a column that is asked for
pub column_shown : (b : Bound) (x y a : ℕ) → column_of b x ≡ Some a
    → (bound_texel b x y ≡ texel_in b (point_of b.turn b.space x y)) × (along (placed b).x (placed b).w (pos x) ≡ Some a)
column_shown b x y a e =
    let there = cut_some b.left b.right x (along (placed b).x (placed b).w (pos x)) a e in
    (cut_in b.left b.right x (texel_in b (point_of b.turn b.space x y)) there.0 there.1.0, there.1.1)

-- by the distances on the target
pub texel_is : (b : Bound) (image : Bitmap) (x y a d : ℕ) → b.source ≡ Some image → image.format ≢ A8
    → column_of b x ≡ Some a → row_of b y ≡ Some d → bound_texel b x y ≡ placed_texel b image a d
texel_is b image x y a d source colours ex ey =
    let p : ℤ × ℤ = point_of b.turn b.space x y in
    let q : ℕ × ℕ = turned_back b.turn (size_of b.layer.dest) a d in
    let column = column_shown b x y a ex in
    let both = placed_along b.turn b.space b.layer.dest x y a d column.1 ey in
    let l : Layer = b.layer in
    column.0
    ∙ ap (λ (s : Option Bitmap). texel_of l s (mask_of l b.mask p.0 p.1) p.0 p.1) source
    ∙ texel_at_place b l.transparency.mask image b.mask p q.0 q.1 colours both.0 both.1
    ∙ ap (λ (place : ℕ × ℕ). if l.transparency.mask then b.mask >>=
    (λ m. Some
    (scaled (lifted_pixel (mode_of image.format l.transparency.source) (fade_of l.transparency.alpha l.alpha)
    (pixel image place.0 place.1)) (mask_value b m a d)))
    else Some (lifted_pixel (mode_of image.format l.transparency.source) (fade_of l.transparency.alpha l.alpha)
    (pixel image place.0 place.1)))
    (place_is b.turn l.turn l b.source b.mask b.space b.left b.right a d)

-- ---- the pixel lies in the image
abbrev Holds : Layer → Option Bitmap → Type 0
Holds l s = IfSome s (λ i. (i.format ≢ A8) × IsTrue (holds_rect i.size l.src))

-- an image that is at hand is the layer's
pub source_is : {a b : Bound} {o : Option Bitmap} → a ≡ b → a.source ≡ o → b.source ≡ o
source_is same is = ap (λ (b : Bound). b.source) (sym same) ∙ is

-- an image of a layer's stream is no mask
pub has_colours : (b : Bound) (image : Bitmap) → IsShowable b → b.source ≡ Some image → image.format ≢ A8
has_colours b image showable source = (subst (Holds b.layer) source showable.has_source).0

pub place_low : (b : Bound) (image : Bitmap) (a d : ℕ) → IsShowable b → b.source ≡ Some image → a < (placed b).w → d < (placed b).h
    → ((source_place b a d).0 < image.size.w) × ((source_place b a d).1 < image.size.h)
place_low b image a d showable source low high =
    let l : Layer = b.layer in
    let q : ℕ × ℕ = turned_back b.turn (size_of l.dest) a d in
    let inside = back_low b.turn (size_of l.dest) a d low high in
    let in_source = source_low l.turn l.src l.flip l.dest q.0 q.1 inside.0 inside.1 showable.src.w_low showable.src.h_low in
    let held = subst (Holds l) source showable.has_source in
    let x = holds_x image.size l.src held.1 showable.src_x in
    let y = holds_y image.size l.src held.1 showable.src_y in
    let at = place_is b.turn l.turn l b.source b.mask b.space b.left b.right a d in
    let first : (source_place b a d).0 ≡ (source_pixel l.src l.flip l.turn l.dest q.0 q.1).0 = ap (λ (p : ℕ × ℕ). p.0) (sym at) in
    let second : (source_place b a d).1 ≡ (source_pixel l.src l.flip l.turn l.dest q.0 q.1).1 = ap (λ (p : ℕ × ℕ). p.1) (sym at) in
    let u = in_source.0 in
    let v = in_source.1 in
    (omega arith, omega arith)

-- ---- the texel by its mask
pub unmasked : (b : Bound) (image : Bitmap) (a d : ℕ) → b.layer.transparency.mask ≡ false
    → Some (lifted_texel b image a d) ≡ placed_texel b image a d
unmasked b image a d set =
    ap (λ (m : Bool). if m then b.mask >>= (λ i. Some (scaled (lifted_texel b image a d) (mask_value b i a d))) else Some
    (lifted_texel b image a d)) (sym set)

pub without_mask : (b : Bound) (image : Bitmap) (a d : ℕ) → b.layer.transparency.mask ≡ true → b.mask ≡ None
    → placed_texel b image a d ≡ None
without_mask b image a d set none =
    ap (λ (m : Bool). if m then b.mask >>= (λ i. Some (scaled (lifted_texel b image a d) (mask_value b i a d))) else Some
    (lifted_texel b image a d)) set
    ∙ ap (λ (mask : Option Bitmap). mask >>= (λ i. Some (scaled (lifted_texel b image a d) (mask_value b i a d)))) none

pub with_mask : (b : Bound) (image mask : Bitmap) (a d : ℕ) → b.layer.transparency.mask ≡ true → b.mask ≡ Some mask
    → Some (scaled (lifted_texel b image a d) (mask_value b mask a d)) ≡ placed_texel b image a d
with_mask b image mask a d set some =
    sym
    (ap (λ (m : Bool). if m then b.mask >>= (λ i. Some (scaled (lifted_texel b image a d) (mask_value b i a d))) else Some
    (lifted_texel b image a d)) set
    ∙ ap (λ (mask : Option Bitmap). mask >>= (λ i. Some (scaled (lifted_texel b image a d) (mask_value b i a d)))) some)
