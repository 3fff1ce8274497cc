-- An opaque layer hides what is below it at each point of its destination.
use Rattle.std.proofs.Common.{◌≡◌, ℕ, ◌+◌, ◌-◌, ◌<◌, ◌≤◌, Bool, true, false, ℤ, refl, ap, ◌∙◌, arith}
use Rattle.std.specs.Prelude.{Option, Some, IsTrue, if◌then◌else◌}
use Rattle.std.proofs.lemmas.Bool.Decides.{nat_tests}
use Rattle.wf_words.specs.Options.{◌>>=◌}
use Rattle.wf_pixel.specs.declared.Rgba.{Rgba}
use Rattle.wf_pixel.specs.declared.Format.{Format}
use Rattle.wf_pixel.specs.declared.Format.TheVariants.{Rgba8, Rgba8Pre, Rgbx8, A8}
use Rattle.wf_pixel.specs.declared.Transparency.{Transparency}
use Rattle.wf_pixel.specs.Arithmetic.{lift, mul}
use Rattle.wf_pixel.specs.Place.{turned_back, size_of, source_pixel}
use Rattle.wf_image.specs.Bitmap.{Bitmap, pixel}
use Rattle.wf_scene.specs.declared.Layer.{Layer}
use Rattle.wf_model.specs.Picture.{alpha_on, mask_of, texel_of}
use Rattle.wf_kernel.specs.declared.spans.Span.{Span}
use Rattle.wf_kernel.specs.Bound.{Bound, point_of}
use Rattle.wf_kernel.specs.Placed.{placed, column_of, row_of}
use Rattle.wf_kernel.specs.Spans.{IsReach}
use Rattle.wf_kernel.specs.Hiding.{HidesBelow, IsCover, stays_opaque, is_rgbx}
use Rattle.wf_kernel.proofs.Placed.{placed_along}
use Rattle.wf_kernel.proofs.Shown.{texel_by, column_shown}

alpha_by : (c : Rgba) (format : Format) (alpha source : Bool) (k : ℕ) → (source ≡ true → is_rgbx format ≡ true) → (alpha ≡ true → k ≡ 255)
    → (lift c format (record { alpha = alpha; source = source; mask = false }) k 255).a ≡ 255
alpha_by c format false false k s a = refl
alpha_by c format true false k s a = ap (mul 255) (a refl)
alpha_by c Rgbx8 false true k s a = refl
alpha_by c Rgbx8 true true k s a = ap (mul 255) (a refl)
alpha_by c Rgba8 alpha true k s a = absurd (let wrong : false ≡ true = s refl in cc)
alpha_by c Rgba8Pre alpha true k s a = absurd (let wrong : false ≡ true = s refl in cc)
alpha_by c A8 alpha true k s a = absurd (let wrong : false ≡ true = s refl in cc)

source_of : (l : Layer) (format : Format) → IsTrue (stays_opaque l format) → l.transparency.source ≡ true → is_rgbx format ≡ true
source_of l format stays set = grind (arith, nat_tests)

alpha_of : (l : Layer) (format : Format) → IsTrue (stays_opaque l format) → l.transparency.alpha ≡ true → l.alpha ≡ 255
alpha_of l format stays set = grind (arith, nat_tests)

-- a layer without a mask whose alpha stays 255
pub covers : (b : Bound) (image : Bitmap) → b.source ≡ Some image → b.layer.transparency.mask ≡ false
    → IsTrue (stays_opaque b.layer image.format) → HidesBelow b
covers b image source mask stays x a y d ex ey =
    let l : Layer = b.layer in
    let t : Transparency = l.transparency in
    let p : ℤ × ℤ = point_of b.turn b.space x y in
    let q : ℕ × ℕ = turned_back b.turn (size_of l.dest) a d in
    let column = column_shown b x y a ex in
    let both = placed_along b.turn b.space l.dest x y a d column.1 ey in
    let place : ℕ × ℕ = source_pixel l.src l.flip l.turn l.dest q.0 q.1 in
    let c : Rgba = pixel image place.0 place.1 in
    let value : mask_of l b.mask p.0 p.1 ≡ Some 255 = ap (λ (m : Bool). if m then b.mask >>= (λ i. alpha_on i l.dest p.0 p.1) else Some 255)
    mask in
    record {
      colour = lift c image.format t l.alpha 255;
      is =
          column.0
          ∙ ap (λ (s : Option Bitmap). texel_of l s (mask_of l b.mask p.0 p.1) p.0 p.1) source
          ∙ (λ i. texel_by l image (value i) (both.0 i) (both.1 i));
      alpha =
          ap (λ (m : Bool). (lift c image.format (record { alpha = t.alpha; source = t.source; mask = m }) l.alpha 255).a) mask
          ∙ alpha_by c image.format t.alpha t.source l.alpha (source_of l image.format stays) (alpha_of l image.format stays);
    }

-- a piece of a row that lies inside of its destination
pub cover_in : (b : Bound) (columns rows : Span) (first n y : ℕ) → HidesBelow b
    → IsReach (column_of b) (placed b).w columns → IsReach (row_of b) (placed b).h rows
    → columns.start ≤ first → first + n ≤ columns.start + columns.len → rows.start ≤ y → y < rows.start + rows.len → IsCover b first n y
cover_in b columns rows first n y hides across down low high above below x within =
    let i : ℕ = first + x - columns.start in
    let j : ℕ = y - rows.start in
    let column : first + x ≡ columns.start + i = omega arith in
    let row : y ≡ rows.start + j = omega arith in
    hides (first + x) (columns.skip + i) y (rows.skip + j)
    (ap (column_of b) column ∙ across.covered i (omega arith)) (ap (row_of b) row ∙ down.covered j (omega arith))
