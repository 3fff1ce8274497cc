-- A head that was put, and then a body or a front of it.
use Rattle.std.proofs.Common.{◌≡◌, ℕ, ◌+◌, ◌-◌, ◌*◌, ◌≤◌, true, List, ◌++◌, length, take, subst, sym, ap, arith}
use Rattle.std.proofs.Common.{length-append}
use Rattle.std.proofs.Math.Nat.{mul-le-mul_right}
use Rattle.std.proofs.lemmas.Bool.{and_parts, leb-true}
use Rattle.std.specs.Prelude.{IsTrue, nat_le}
use Rattle.wf_pixel.specs.Choice.{has_sides, is_side}
use Rattle.wf_pixel.specs.declared.Format.{Format}
use Rattle.wf_pixel.specs.declared.Format.TheVariants as format
use Rattle.wf_pixel.specs.declared.Size.{Size}
use Rattle.wf_pixel.specs.declared.TheConstants.{MOST_SIDE}
use Rattle.wf_image.specs.Bitmap.{image_bytes, pixel_bytes}
use Rattle.wf_wire.specs.declared.answering.TheConstants.{ANSWER_BYTES}
use Rattle.wf_io.specs.Bytes.{Puts, PutsPart}
use Rattle.wf_io.specs.Parts.{puts_both, stops_early, stops_late}

module _ {K : Type 0} (took : K → List ℕ → Type 0) where
  -- what was put of bytes is told from a later start
  shifted : (b c : K) (n : ℕ) (ys : List ℕ) (w : ℕ) → PutsPart took b c 0 ys w → PutsPart took b c n ys (n + w)
  shifted b c n ys w part = record {
    least = omega arith;
    short = omega (arith, part.short);
    front = let same : w - 0 ≡ n + w - n = omega arith in subst (λ (k : ℕ). Puts took b c (take k ys)) same part.front;
  }

  pub head_stops : (a b : K) (xs ys zs : List ℕ) (w : ℕ) → zs ≡ xs ++ ys → PutsPart took a b 0 xs w → PutsPart took a b 0 zs w
  head_stops a b xs ys zs w is part =
      subst (λ (all : List ℕ). PutsPart took a b 0 all w) (sym is) (stops_early took a b 0 xs ys w part)

  pub body_stops : (a b c : K) (n : ℕ) (xs ys zs : List ℕ) (w : ℕ) → zs ≡ xs ++ ys → n ≡ length xs → Puts took a b xs
      → PutsPart took b c 0 ys w
      → PutsPart took a c 0 zs (n + w)
  body_stops a b c n xs ys zs w is long first part =
      subst (λ (all : List ℕ). PutsPart took a c 0 all (n + w)) (sym is)
      (stops_late took a b c 0 n xs ys (n + w) first (let there : n ≡ 0 + length xs = omega arith in there) (shifted b c n ys w part))

  pub both_put : (a b c : K) (xs ys zs : List ℕ) → zs ≡ xs ++ ys → Puts took a b xs → Puts took b c ys → Puts took a c zs
  both_put a b c xs ys zs is first second = subst (Puts took a c) (sym is) (puts_both took a b c xs ys first second)

-- an image that is shown

four_at_most : (f : Format) (area : ℕ) → area * pixel_bytes f ≤ area * 4
four_at_most format.A8 area = omega arith
four_at_most format.Rgba8 area = omega arith
four_at_most format.Rgba8Pre area = omega arith
four_at_most format.Rgbx8 area = omega arith

side_most : (n : ℕ) → is_side n ≡ true → n ≤ MOST_SIDE
side_most n is = leb-true n MOST_SIDE (and_parts (nat_le 1 n) (nat_le n MOST_SIDE) is).1

pixels_few : (s : Size) (f : Format) → IsTrue (has_sides s) → image_bytes s f ≤ 4 * MOST_SIDE * MOST_SIDE
pixels_few s f sides =
    let both = and_parts (is_side s.w) (is_side s.h) sides in
    let w : s.w ≤ MOST_SIDE = side_most s.w both.0 in
    let h : s.h ≤ MOST_SIDE = side_most s.h both.1 in
    let across : s.w * s.h ≤ MOST_SIDE * s.h = mul-le-mul_right s.h w in
    omega (arith, four_at_most f (s.w * s.h), across, h)

-- with its head it is an answer
pub shown_few : (head all bytes : List ℕ) (s : Size) (f : Format) → all ≡ head ++ bytes → length head ≡ 9 → IsTrue (has_sides s)
    → length bytes ≡ image_bytes s f → length all ≤ ANSWER_BYTES
shown_few head all bytes s f is nine sides counted =
    omega (arith, ap length is, length-append head bytes, nine, counted, pixels_few s f sides)
