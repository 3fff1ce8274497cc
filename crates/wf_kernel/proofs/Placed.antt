-- Where the pixels of a layer lie.
use Rattle.std.proofs.Common.{◌≡◌, ℕ, ◌+◌, ◌-◌, ◌*◌, ◌/◌, ◌<◌, ◌≤◌, Bool, true, false, ℤ, pos, refl, sym, ap, ◌∙◌, arith}
use Rattle.std.specs.Prelude.{◌≤ℤ◌, ◌+ℤ◌, ◌-ℤ◌, Option, None, Some, nat_abs, IsTrue}
use Rattle.std.proofs.lemmas.Nat.{div-mul-add}
use Rattle.std.proofs.Math.Nat.{div-lt_iff_lt-mul, mul-le-mul_right}
use Rattle.std.proofs.lemmas.Int.{ints}
use Rattle.std.proofs.lemmas.Bool.Decides.{nat_tests}
use Rattle.wf_pixel.specs.declared.Rect.{Rect}
use Rattle.wf_pixel.specs.declared.Rotation.{Rotation}
use Rattle.wf_pixel.specs.declared.Rotation.TheVariants.{R0, R90, R180, R270}
use Rattle.wf_pixel.specs.declared.Size.{Size}
use Rattle.wf_pixel.specs.Along.{along}
use Rattle.wf_pixel.specs.Choice.{has_sides}
use Rattle.wf_pixel.specs.Arithmetic.{samp}
use Rattle.wf_pixel.specs.Place.{turned, turned_back, size_of, source_pixel}
use Rattle.wf_scene.specs.declared.Layer.{Layer}
use Rattle.wf_scene.specs.Layers.{holds_rect}
use Rattle.wf_kernel.specs.Bound.{Bound, point_of}
use Rattle.wf_kernel.specs.Placed.{mirrored, left_on, top_on, down, source_place}

-- ---- the sampled place
-- nothing is scaled
pub samp_same : (i w : ℕ) → 0 < w → samp i w w ≡ i
samp_same i w some =
    let split : (2 * i + 1) * w ≡ i * (2 * w) + w = grind arith in
    ap (λ (n : ℕ). n / (2 * w)) split ∙ div-mul-add i (2 * w) w (omega arith)

-- a coordinate of a source, where its side is as long as the one that shows it
pub samp_level : (x i w s : ℕ) → s ≡ w → 1 ≤ w → x + samp i w s ≡ x + i
samp_level x i w s same some = ap (λ (n : ℕ). x + samp i w n) same ∙ ap (λ (n : ℕ). x + n) (samp_same i w some)

samp_below : (i w s : ℕ) → i < w → 1 ≤ s → samp i w s < s
samp_below i w s low some =
    let more : (2 * i + 1) * s + s ≤ (2 * w) * s = mul_more (2 * i + 1) (2 * w) s (omega arith) in
    let less : (2 * i + 1) * s < s * (2 * w) = grind (arith, more) in
    (div-lt_iff_lt-mul {k = 2 * w} {x = (2 * i + 1) * s} {y = s} (omega arith)).1 less
  where
    mul_more : (a b s : ℕ) → a + 1 ≤ b → a * s + s ≤ b * s
    mul_more a b s le = let all : (a + 1) * s ≤ b * s = mul-le-mul_right s le in grind (arith, all)

-- what the distance from the top determines by a layer's fields, it determines by the layer
pub down_is : {a b : Bound} {r : ℕ} (d : ℕ) → a ≡ b → r ≡ down a.turn a.layer d → r ≡ down b.turn b.layer d
down_is d same is = is ∙ ap (λ (b : Bound). down b.turn b.layer d) same

-- ---- the pixel of the source by the distances on the target
pub place_is : (t u : Rotation) (l : Layer) (source mask : _) (s : Size) (left right a d : ℕ)
    → let q : ℕ × ℕ = turned_back t (size_of l.dest) a d in
    source_pixel l.src l.flip u l.dest q.0 q.1
    ≡ source_place
    (record { layer = record l { turn = u }; source = source; mask = mask; turn = t; space = s; left = left; right = right }) a d
place_is R0 R0 l source mask s left right a d = refl
place_is R0 R90 l source mask s left right a d = refl
place_is R0 R180 l source mask s left right a d = refl
place_is R0 R270 l source mask s left right a d = refl
place_is R90 R0 l source mask s left right a d = refl
place_is R90 R90 l source mask s left right a d = refl
place_is R90 R180 l source mask s left right a d = refl
place_is R90 R270 l source mask s left right a d = refl
place_is R180 R0 l source mask s left right a d = refl
place_is R180 R90 l source mask s left right a d = refl
place_is R180 R180 l source mask s left right a d = refl
place_is R180 R270 l source mask s left right a d = refl
place_is R270 R0 l source mask s left right a d = refl
place_is R270 R90 l source mask s left right a d = refl
place_is R270 R180 l source mask s left right a d = refl
place_is R270 R270 l source mask s left right a d = refl

-- ---- a side counted from the other end
along_sum : (x : ℤ) (w : ℕ) (z : ℤ) (a : ℕ) → along x w z ≡ Some a → z ≡ x +ℤ pos a
along_sum x w z a e = grind (arith, ints, nat_tests)

pub along_low : (x : ℤ) (w : ℕ) (z : ℤ) (a : ℕ) → along x w z ≡ Some a → a < w
along_low x w z a e = grind (arith, ints, nat_tests)

along_is : (x : ℤ) (w : ℕ) (z : ℤ) (a : ℕ) → z ≡ x +ℤ pos a → a < w → along x w z ≡ Some a
along_is x w z a sum low = grind (arith, ints, nat_tests)

mirrored_some : (n : ℕ) (x : ℤ) (w j a : ℕ) → along (mirrored n x w) w (pos j) ≡ Some a
    → along x w (pos n -ℤ pos (j + 1)) ≡ Some (w - 1 - a)
mirrored_some n x w j a e =
    let sum : pos j ≡ mirrored n x w +ℤ pos a = along_sum (mirrored n x w) w (pos j) a e in
    let low : a < w = along_low (mirrored n x w) w (pos j) a e in
    let k : ℕ = w - 1 - a in
    let back : w ≡ k + 1 + a = omega arith in
    let there : pos n -ℤ pos (j + 1) ≡ x +ℤ pos k = omega (arith, ints) in
    along_is x w (pos n -ℤ pos (j + 1)) k there (omega arith)

mirrored_none : (n : ℕ) (x : ℤ) (w j : ℕ) → along (mirrored n x w) w (pos j) ≡ None → along x w (pos n -ℤ pos (j + 1)) ≡ None
mirrored_none n x w j e = by (along x w (pos n -ℤ pos (j + 1))) refl
  where
    by : (o : Option ℕ) → along x w (pos n -ℤ pos (j + 1)) ≡ o → along x w (pos n -ℤ pos (j + 1)) ≡ None
    by None is = is
    by (Some k) is =
        let sum : pos n -ℤ pos (j + 1) ≡ x +ℤ pos k = along_sum x w (pos n -ℤ pos (j + 1)) k is in
        let low : k < w = along_low x w (pos n -ℤ pos (j + 1)) k is in
        let a : ℕ = w - 1 - k in
        let back : w ≡ a + 1 + k = omega arith in
        let there : pos j ≡ mirrored n x w +ℤ pos a = omega (arith, ints) in
        let found : along (mirrored n x w) w (pos j) ≡ Some a = along_is (mirrored n x w) w (pos j) a there (omega arith) in
        absurd (let wrong : Some a ≡ None = sym found ∙ e in cc)

-- ---- from the target to the space
pub placed_along : (t : Rotation) (s : Size) (r : Rect) (x y a d : ℕ)
    → along (left_on t s r) (turned t (size_of r)).w (pos x) ≡ Some a → along (top_on t s r) (turned t (size_of r)).h (pos y) ≡ Some d
    → let q : ℕ × ℕ = turned_back t (size_of r) a d in
    (along r.x r.w (point_of t s x y).0 ≡ Some q.0) × (along r.y r.h (point_of t s x y).1 ≡ Some q.1)
placed_along R0 s r x y a d ex ey = (ex, ey)
placed_along R90 s r x y a d ex ey = (ey, mirrored_some s.h r.y r.h x a ex)
placed_along R180 s r x y a d ex ey = (mirrored_some s.w r.x r.w x a ex, mirrored_some s.h r.y r.h y d ey)
placed_along R270 s r x y a d ex ey = (mirrored_some s.w r.x r.w y d ey, ex)

-- a point beside a destination in the space, in one direction or the other
pub data IsOutside (r : Rect) (p : ℤ × ℤ) : Type 0 where
  beside : along r.x r.w p.0 ≡ None → IsOutside r p
  above : along r.y r.h p.1 ≡ None → IsOutside r p

pub beside_target : (t : Rotation) (s : Size) (r : Rect) (x y : ℕ) → along (left_on t s r) (turned t (size_of r)).w (pos x) ≡ None
    → IsOutside r (point_of t s x y)
beside_target R0 s r x y e = beside e
beside_target R90 s r x y e = above (mirrored_none s.h r.y r.h x e)
beside_target R180 s r x y e = beside (mirrored_none s.w r.x r.w x e)
beside_target R270 s r x y e = above e

pub above_target : (t : Rotation) (s : Size) (r : Rect) (x y : ℕ) → along (top_on t s r) (turned t (size_of r)).h (pos y) ≡ None
    → IsOutside r (point_of t s x y)
above_target R0 s r x y e = above e
above_target R90 s r x y e = beside e
above_target R180 s r x y e = above (mirrored_none s.h r.y r.h y e)
above_target R270 s r x y e = beside (mirrored_none s.w r.x r.w y e)

-- the distances in the space are those of a pixel of the destination
pub back_low : (t : Rotation) (s : Size) (a d : ℕ) → a < (turned t s).w → d < (turned t s).h
    → ((turned_back t s a d).0 < s.w) × ((turned_back t s a d).1 < s.h)
back_low R0 s a d x y = (x, y)
back_low R90 s a d x y = (omega arith, omega arith)
back_low R180 s a d x y = (omega arith, omega arith)
back_low R270 s a d x y = (omega arith, omega arith)

-- ---- the pixel lies in the source
pub source_low : (u : Rotation) (src : Rect) (flip : Bool) (dest : Rect) (dx dy : ℕ) → dx < dest.w → dy < dest.h → 1 ≤ src.w → 1 ≤ src.h
    → ((source_pixel src flip u dest dx dy).0 < nat_abs src.x + src.w) × ((source_pixel src flip u dest dx dy).1 < nat_abs src.y + src.h)
source_low R0 src true dest dx dy ex ey w h =
    let a = samp_below dx dest.w src.w ex w in let b = samp_below dy dest.h src.h ey h in (omega arith, omega arith)
source_low R0 src false dest dx dy ex ey w h =
    let a = samp_below dx dest.w src.w ex w in let b = samp_below dy dest.h src.h ey h in (omega arith, omega arith)
source_low R180 src true dest dx dy ex ey w h =
    let a = samp_below dx dest.w src.w ex w in let b = samp_below dy dest.h src.h ey h in (omega arith, omega arith)
source_low R180 src false dest dx dy ex ey w h =
    let a = samp_below dx dest.w src.w ex w in let b = samp_below dy dest.h src.h ey h in (omega arith, omega arith)
source_low R90 src true dest dx dy ex ey w h =
    let a = samp_below dx dest.w src.h ex h in let b = samp_below dy dest.h src.w ey w in (omega arith, omega arith)
source_low R90 src false dest dx dy ex ey w h =
    let a = samp_below dx dest.w src.h ex h in let b = samp_below dy dest.h src.w ey w in (omega arith, omega arith)
source_low R270 src true dest dx dy ex ey w h =
    let a = samp_below dx dest.w src.h ex h in let b = samp_below dy dest.h src.w ey w in (omega arith, omega arith)
source_low R270 src false dest dx dy ex ey w h =
    let a = samp_below dx dest.w src.h ex h in let b = samp_below dy dest.h src.w ey w in (omega arith, omega arith)

pub holds_x : (size : Size) (r : Rect) → IsTrue (holds_rect size r) → pos 0 ≤ℤ r.x → nat_abs r.x + r.w ≤ size.w
holds_x size r holds low = grind (arith, ints, nat_tests)

pub holds_y : (size : Size) (r : Rect) → IsTrue (holds_rect size r) → pos 0 ≤ℤ r.y → nat_abs r.y + r.h ≤ size.h
holds_y size r holds low = grind (arith, ints, nat_tests)

-- ---- a turned size
pub turned_sides : (t : Rotation) (s : Size) → IsTrue (has_sides s) → IsTrue (has_sides (turned t s))
turned_sides R0 s sides = sides
turned_sides R90 s sides = grind (arith, nat_tests)
turned_sides R180 s sides = sides
turned_sides R270 s sides = grind (arith, nat_tests)
