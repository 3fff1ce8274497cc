-- How many bytes a picture has at most, and that they are its rows.
use Rattle.std.proofs.Common.{◌≡◌, ◌∙◌, ℕ, suc, ◌+◌, ◌-◌, ◌*◌, ◌≤◌, ◌&&◌, true, sym, ap, ap₂, arith}
use Rattle.std.specs.Prelude.{IsTrue, nat_le}
use Rattle.std.proofs.lemmas.Bool.{and_parts, le-leb, leb-true}
use Rattle.std.proofs.Math.Nat.{le_refl, mul_comm, mul-le-mul_right, mul-suc, mul_right_comm}
use Rattle.wf_host.specs.Rows.{stands}
use Rattle.wf_pixel.specs.declared.Format.{Format}
use Rattle.wf_pixel.specs.declared.Format.TheVariants as format
use Rattle.wf_pixel.specs.declared.Size.{Size}
use Rattle.wf_pixel.specs.declared.TheConstants.{MOST_SIDE}
use Rattle.wf_pixel.specs.Choice.{has_sides, is_side}
use Rattle.wf_image.specs.Bitmap.{image_bytes, pixel_bytes}
use Rattle.wf_serve.specs.declared.screen.TheConstants.{FULL}

four_at_most : (f : Format) (area : ℕ) → area * pixel_bytes f ≤ area * 4
four_at_most format.A8 area = omega arith
four_at_most format.Rgba8 area = omega arith
four_at_most format.Rgba8Pre area = omega arith
four_at_most format.Rgbx8 area = omega arith

side_most : (n : ℕ) → is_side n ≡ true → n ≤ MOST_SIDE
side_most n is = leb-true n MOST_SIDE (and_parts (nat_le 1 n) (nat_le n MOST_SIDE) is).1

pub most_bytes : (s : Size) (f : Format) → IsTrue (has_sides s) → image_bytes s f ≤ FULL
most_bytes s f sides =
    let both = and_parts (is_side s.w) (is_side s.h) sides in
    let w : s.w ≤ MOST_SIDE = side_most s.w both.0 in
    let h : s.h ≤ MOST_SIDE = side_most s.h both.1 in
    let across : s.w * s.h ≤ MOST_SIDE * s.h = mul-le-mul_right s.h w in
    omega (arith, four_at_most f (s.w * s.h), across, h)

-- the bytes of an image are its rows
pub packed : (room w h b : ℕ) → 1 ≤ h → room ≡ w * h * b → stands room (w * b) (w * b) h ≡ true
packed room w h b some is =
    let k : ℕ = h - 1 in
    let more : h ≡ suc k = omega (arith, some) in
    let last : w * b * k + w * b ≡ room =
    sym (mul-suc (w * b) k) ∙ ap (λ n. w * b * n) (sym more) ∙ mul_right_comm w b h ∙ sym is in
    ap₂ (λ x y. x && y) (le-leb (w * b) (w * b) (le_refl (w * b))) (le-leb (w * b * k + w * b) room (omega (arith, last)))

-- rows of an image, from the top
pub rows_fit : (room n w h b : ℕ) → n ≤ h → room ≡ w * h * b → n * (w * b) ≤ room
rows_fit room n w h b few is =
    let all : h * (w * b) ≡ room = mul_comm h (w * b) ∙ mul_right_comm w b h ∙ sym is in
    omega (arith, all, mul-le-mul_right (w * b) few)
