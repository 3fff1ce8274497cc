-- A rectangle that lies in an image, by the bytes of its rows.
use Rattle.std.proofs.Common.{◌≡◌, ◌∙◌, ℕ, suc, ◌+◌, ◌-◌, ◌*◌, ◌≤◌, ◌&&◌, true, nat_le, refl, sym, ap, ap₂, subst, arith}
use Rattle.std.proofs.lemmas.Bool.{and_parts, eqb-true, le-leb, leb-true}
use Rattle.std.proofs.Math.Nat.{add-mul, le_refl, mul-le-mul_right, mul-suc, mul_comm, mul_right_comm}
use Rattle.wf_host.specs.Rows.{stands}
use Rattle.std.specs.Prelude.{IsTrue, ◌<◌, ◌==◌, ◌^◌}
use Rattle.wf_image.specs.Bitmap.{Bitmap, image_bytes, pixel_bytes}
use Rattle.wf_pixel.specs.Choice.{has_sides, is_side}
use Rattle.wf_pixel.specs.declared.Format.{Format}
use Rattle.wf_pixel.specs.declared.Format.TheVariants as format
use Rattle.wf_pixel.specs.declared.Size.{Size}
use Rattle.wf_pixel.specs.declared.TheConstants.{MOST_SIDE}
use Rattle.wf_serve.specs.Pixels.{fits_side, may_put}
use Rattle.wf_serve.specs.declared.pixels.Rectangle.{Rectangle}

pub record FitsSide (from count side : ℕ) : Type 0 where
  pub some : 1 ≤ count
  pub within : from + count ≤ side

pub fits_so : (from count side : ℕ) → fits_side from count side ≡ true → FitsSide from count side
fits_so from count side is =
    let first = and_parts (nat_le 1 count) (nat_le count side && nat_le from (side - count)) is in
    let rest = and_parts (nat_le count side) (nat_le from (side - count)) first.1 in
    record {
      some = leb-true 1 count first.0;
      within = omega (arith, leb-true count side rest.0, leb-true from (side - count) rest.1);
    }

module _ (x y w h wide high b : ℕ) (across : FitsSide x w wide) (down : FitsSide y h high) where
  abbrev stride : ℕ
  stride = wide * b

  abbrev at : ℕ
  at = y * stride + x * b

  -- the last row ends in the image
  last_row : at + (stride * (h - 1) + w * b) ≤ high * stride
  last_row =
      let k : ℕ = h - 1 in
      let more : h ≡ suc k = omega (arith, down.some) in
      let row : x * b + w * b ≤ stride =
      subst (λ n. n ≤ stride) (add-mul x w b) (mul-le-mul_right b across.within) in
      let rows : (y + h) * stride ≤ high * stride = mul-le-mul_right stride down.within in
      let parts : y * stride + h * stride ≤ high * stride = subst (λ n. n ≤ high * stride) (add-mul y h stride) rows in
      let one : h * stride ≡ stride * k + stride = ap (λ n. n * stride) more ∙ mul_comm (suc k) stride ∙ mul-suc stride k in
      omega (arith, row, parts, one)

  module _ (room : ℕ) (all : room ≡ high * stride) where
    pub starts_within : at ≤ room
    starts_within = omega (arith, last_row, all)

    pub rows_stand : stands (room - at) stride (w * b) h ≡ true
    rows_stand =
        let narrow : w * b ≤ stride = mul-le-mul_right b (let le : w ≤ wide = omega (arith, across.within) in le) in
        ap₂ (λ p q. p && q) (le-leb (w * b) stride narrow)
        (le-leb (stride * (h - 1) + w * b) (room - at) (omega (arith, last_row, all)))

-- a rectangle that an image has, and its pixels

few_bytes : (f : Format) → pixel_bytes f ≤ 4
few_bytes format.A8 = omega arith
few_bytes format.Rgba8 = omega arith
few_bytes format.Rgba8Pre = omega arith
few_bytes format.Rgbx8 = omega arith

module _ (image : Bitmap) (r : Rectangle) (count : ℕ) (size : Size) (b : ℕ) (may : may_put image r count ≡ true)
    (is_size : size ≡ image.size) (is_b : b ≡ pixel_bytes image.format) where
  first : (fits_side r.x r.w image.size.w ≡ true)
      × ((fits_side r.y r.h image.size.h && (count == r.w * r.h * pixel_bytes image.format)) ≡ true)
  first = and_parts (fits_side r.x r.w image.size.w) (fits_side r.y r.h image.size.h && (count == r.w * r.h * pixel_bytes image.format)) may

  rest : (fits_side r.y r.h image.size.h ≡ true) × ((count == r.w * r.h * pixel_bytes image.format) ≡ true)
  rest = and_parts (fits_side r.y r.h image.size.h) (count == r.w * r.h * pixel_bytes image.format) first.1

  wide : FitsSide r.x r.w size.w
  wide = subst (λ s. FitsSide r.x r.w s.w) (sym is_size) (fits_so r.x r.w image.size.w first.0)

  tall : FitsSide r.y r.h size.h
  tall = subst (λ s. FitsSide r.y r.h s.h) (sym is_size) (fits_so r.y r.h image.size.h rest.0)

  pub place_fits : IsTrue (has_sides size) → r.y * (size.w * b) + r.x * b < 2 ^ 64
  place_fits sides =
      let both = and_parts (is_side size.w) (is_side size.h) sides in
      let w : size.w ≤ MOST_SIDE = leb-true size.w MOST_SIDE (and_parts (nat_le 1 size.w) (nat_le size.w MOST_SIDE) both.0).1 in
      let h : size.h ≤ MOST_SIDE = leb-true size.h MOST_SIDE (and_parts (nat_le 1 size.h) (nat_le size.h MOST_SIDE) both.1).1 in
      let row : size.w * b ≤ MOST_SIDE * b = mul-le-mul_right b w in
      let all : size.h * (size.w * b) ≤ MOST_SIDE * (size.w * b) = mul-le-mul_right (size.w * b) h in
      let four : b ≤ 4 = subst (λ n. n ≤ 4) (sym is_b) (few_bytes image.format) in
      omega (arith, starts_within r.x r.y r.w r.h size.w size.h b wide tall (size.h * (size.w * b)) refl, all, row, four)

  module _ (room : ℕ) (is_room : room ≡ image_bytes image.size image.format) where
    all : room ≡ size.h * (size.w * b)
    all =
        is_room ∙ (λ i. image_bytes (sym is_size i) image.format) ∙ ap (λ n. size.w * size.h * n) (sym is_b)
        ∙ sym (mul_right_comm size.w b size.h) ∙ mul_comm (size.w * b) size.h

    pub place_within : r.y * (size.w * b) + r.x * b ≤ room
    place_within = starts_within r.x r.y r.w r.h size.w size.h b wide tall room all

    pub image_stands : stands (room - (r.y * (size.w * b) + r.x * b)) (size.w * b) (r.w * b) r.h ≡ true
    image_stands = rows_stand r.x r.y r.w r.h size.w size.h b wide tall room all

  pub pixels_stand : stands count (r.w * b) (r.w * b) r.h ≡ true
  pixels_stand =
      let k : ℕ = r.h - 1 in
      let more : r.h ≡ suc k = omega (arith, tall.some) in
      let whole : count ≡ r.w * r.h * b =
      eqb-true count (r.w * r.h * pixel_bytes image.format) rest.1 ∙ ap (λ n. r.w * r.h * n) (sym is_b) in
      let last : r.w * b * k + r.w * b ≡ count =
      sym (mul-suc (r.w * b) k) ∙ ap (λ n. r.w * b * n) (sym more) ∙ mul_right_comm r.w b r.h ∙ sym whole in
      ap₂ (λ p q. p && q) (le-leb (r.w * b) (r.w * b) (le_refl (r.w * b))) (le-leb (r.w * b * k + r.w * b) count (omega (arith, last)))
