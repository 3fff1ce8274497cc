-- Pixels by the lower and the upper bytes of their words.
use Rattle.std.proofs.Common.{◌≡◌, ℕ, zero, suc, ◌+◌, ◌-◌, ◌*◌, ◌<◌, List, [], ◌∷◌, length, replicate, map, min, refl, arith}
use Rattle.std.specs.Simd.Lanes.{zip2, Each1}
use Rattle.wf_pixel.specs.Arithmetic.{mul, channel_over}
use Rattle.wf_row.specs.declared.AlphaMode.TheVariants.{Straight, Opaque}
use Rattle.wf_row.specs.Bytes.{lows, highs, joined, seconds, twice, solid, premultiplied_bytes, faded_bytes, masked_bytes, over_bytes}

abbrev byte : ℕ → Type 0
byte x = x < 256

-- the bytes from their halves
pub joined_halves : (n : ℕ) (xs : List ℕ) → length xs ≡ 2 * n → joined (lows xs) (highs xs) ≡ xs
joined_halves n [] len = refl
joined_halves zero (a ∷ xs) len = absurd (omega arith)
joined_halves (suc n) (a ∷ []) len = absurd (omega arith)
joined_halves (suc n) (a ∷ b ∷ xs) len = λ i. a ∷ b ∷ joined_halves n xs (omega arith) i

pub solid_joined : (n : ℕ) (low high : List ℕ) → length low ≡ 2 * n → length high ≡ 2 * n
    → joined low (solid high) ≡ premultiplied_bytes Opaque (joined low high)
solid_joined zero [] high l h = refl
solid_joined zero (r ∷ low) high l h = absurd (omega arith)
solid_joined (suc n) [] high l h = absurd (omega arith)
solid_joined (suc n) (r ∷ []) high l h = absurd (omega arith)
solid_joined (suc n) (r ∷ b ∷ low) [] l h = absurd (omega arith)
solid_joined (suc n) (r ∷ b ∷ low) (g ∷ []) l h = absurd (omega arith)
solid_joined (suc n) (r ∷ b ∷ low) (g ∷ a ∷ high) l h = λ i. r ∷ g ∷ b ∷ 255 ∷ solid_joined n low high (omega arith) (omega arith) i

-- the whole of an alpha
whole : (a : ℕ) → a < 256 → mul 255 a ≡ a
whole a x = omega arith

pub straight_joined : (n : ℕ) (low high : List ℕ) → length low ≡ 2 * n → length high ≡ 2 * n → Each1 byte high
    → joined (zip2 mul low (seconds high)) (zip2 mul (solid high) (seconds high)) ≡ premultiplied_bytes Straight (joined low high)
straight_joined zero [] high l h x = refl
straight_joined zero (r ∷ low) high l h x = absurd (omega arith)
straight_joined (suc n) [] high l h x = absurd (omega arith)
straight_joined (suc n) (r ∷ []) high l h x = absurd (omega arith)
straight_joined (suc n) (r ∷ b ∷ low) [] l h x = absurd (omega arith)
straight_joined (suc n) (r ∷ b ∷ low) (g ∷ []) l h x = absurd (omega arith)
straight_joined (suc n) (r ∷ b ∷ low) (g ∷ a ∷ high) l h x =
    λ i. mul r a ∷ mul g a ∷ mul b a ∷ whole a x.1.0 i ∷ straight_joined n low high (omega arith) (omega arith) x.1.1 i

pub faded_joined : (n k : ℕ) (low high : List ℕ) → length low ≡ n → length high ≡ n
    → joined (zip2 mul low (replicate n k)) (zip2 mul high (replicate n k)) ≡ faded_bytes k (joined low high)
faded_joined n k [] high l h = refl
faded_joined zero k (a ∷ low) high l h = absurd (omega arith)
faded_joined (suc n) k (a ∷ low) [] l h = absurd (omega arith)
faded_joined (suc n) k (a ∷ low) (b ∷ high) l h = λ i. mul a k ∷ mul b k ∷ faded_joined n k low high (omega arith) (omega arith) i

pub masked_joined : (n : ℕ) (ms low high : List ℕ) → length ms ≡ n → length low ≡ 2 * n → length high ≡ 2 * n
    → joined (zip2 mul low (twice ms)) (zip2 mul high (twice ms)) ≡ masked_bytes ms (joined low high)
masked_joined n [] [] high s l h = refl
masked_joined n [] (r ∷ low) high s l h = refl
masked_joined zero (m ∷ ms) low high s l h = absurd (omega arith)
masked_joined (suc n) (m ∷ ms) [] high s l h = absurd (omega arith)
masked_joined (suc n) (m ∷ ms) (r ∷ []) high s l h = absurd (omega arith)
masked_joined (suc n) (m ∷ ms) (r ∷ b ∷ low) [] s l h = absurd (omega arith)
masked_joined (suc n) (m ∷ ms) (r ∷ b ∷ low) (g ∷ []) s l h = absurd (omega arith)
masked_joined (suc n) (m ∷ ms) (r ∷ b ∷ low) (g ∷ a ∷ high) s l h =
    λ i. mul r m ∷ mul g m ∷ mul b m ∷ mul a m ∷ masked_joined n ms low high (omega arith) (omega arith) (omega arith) i

pub over_joined : (n : ℕ) (low high under upper : List ℕ) → length low ≡ 2 * n → length high ≡ 2 * n → length under ≡ 2 * n
    → length upper ≡ 2 * n
    → zip2 (λ a b. min 255 (a + b)) (joined low high) (joined (zip2 mul under (map (λ a. 255 - a) (seconds high)))
    (zip2 mul upper (map (λ a. 255 - a) (seconds high))))
    ≡ over_bytes (joined low high) (joined under upper)
over_joined zero [] high under upper l h u v = refl
over_joined zero (r ∷ low) high under upper l h u v = absurd (omega arith)
over_joined (suc n) [] high under upper l h u v = absurd (omega arith)
over_joined (suc n) (r ∷ []) high under upper l h u v = absurd (omega arith)
over_joined (suc n) (r ∷ b ∷ low) [] under upper l h u v = absurd (omega arith)
over_joined (suc n) (r ∷ b ∷ low) (g ∷ []) under upper l h u v = absurd (omega arith)
over_joined (suc n) (r ∷ b ∷ low) (g ∷ a ∷ high) [] upper l h u v = absurd (omega arith)
over_joined (suc n) (r ∷ b ∷ low) (g ∷ a ∷ high) (x ∷ []) upper l h u v = absurd (omega arith)
over_joined (suc n) (r ∷ b ∷ low) (g ∷ a ∷ high) (x ∷ y ∷ under) [] l h u v = absurd (omega arith)
over_joined (suc n) (r ∷ b ∷ low) (g ∷ a ∷ high) (x ∷ y ∷ under) (z ∷ []) l h u v = absurd (omega arith)
over_joined (suc n) (r ∷ b ∷ low) (g ∷ a ∷ high) (x ∷ y ∷ under) (z ∷ w ∷ upper) l h u v =
    λ i. channel_over a r x ∷ channel_over a g z ∷ channel_over a b y ∷ channel_over a a w
    ∷ over_joined n low high under upper (omega arith) (omega arith) (omega arith) (omega arith) i
