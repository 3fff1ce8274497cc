-- What the operations of vectors do to lanes that are bytes.
use Rattle.std.proofs.Common.{◌≡◌, ℕ, zero, suc, ◌+◌, ◌-◌, ◌*◌, ◌/◌, ◌%◌, ◌^◌, ◌<◌, ◌≤◌, List, [], ◌∷◌, ◌++◌, length, replicate, bit_and}
use Rattle.std.proofs.Common.{bit_or, min, map, cond, refl, sym, ap, subst, ◌∙◌, arith}
use Rattle.std.specs.Simd.Lanes.{zip2, Each1, number_l, digits_l, pick_l, sel_l, top}
use Rattle.std.proofs.lemmas.Simd.{pick_l_whole, length-zip2}
use Rattle.std.proofs.lemmas.Nat.{mul-le, and_mask, and_le_r}
use Rattle.std.specs.Int.Bits.{or_shifted_r, or_add_and}
use Rattle.std.proofs.Math.Nat.{mod-eq_of_lt}
use Rattle.std.proofs.lemmas.Bool.Decides.{nat_tests}
use lib.Dec.{ltb}
use Rattle.std.proofs.lemmas.List.{length-map}
use Rattle.wf_pixel.specs.Arithmetic.{mul}
use Rattle.wf_row.specs.Bytes.{AreBytes, lows, highs, joined, seconds, twice, solid}

abbrev byte : ℕ → Type 0
byte x = x < 256

-- ---- the rounded product, without a division

-- the product of two bytes
product_bound : (a b : ℕ) → a < 256 → b < 256 → a * b ≤ 65025
product_bound a b x y = mul-le a b 255 255 (omega arith) (omega arith)

-- t / 255 rounded to the nearest, in words of 16 bits
rounded : (p : ℕ) → p ≤ 65025 → ((p + 128) % 65536 + (p + 128) % 65536 / 256) % 65536 / 256 ≡ (p + 127) / 255
rounded p le = omega arith

pub rounded_product : (a b : ℕ) → a < 256 → b < 256
    → ((a * b % 65536 + 128) % 65536 + (a * b % 65536 + 128) % 65536 / 256) % 65536 / 256 ≡ mul a b
rounded_product a b x y =
    let le : a * b ≤ 65025 = product_bound a b x y in
    let whole : a * b % 65536 ≡ a * b = mod-eq_of_lt (omega arith) in
    rw whole (rounded (a * b) le)

abbrev times : ℕ → ℕ → ℕ
times a b = a * b % 65536

abbrev plus : ℕ → ℕ → ℕ
plus a b = (a + b) % 65536

abbrev shifted_down : ℕ → ℕ → ℕ
shifted_down a b = a / 2 ^ b

pub mul_zip : (n : ℕ) (xs qs : List ℕ) → length xs ≡ n → Each1 byte xs → Each1 byte qs
    → zip2 shifted_down (zip2 plus (zip2 plus (zip2 times xs qs) (replicate n 128))
    (zip2 shifted_down (zip2 plus (zip2 times xs qs) (replicate n 128)) (replicate n 8))) (replicate n 8)
    ≡ zip2 mul xs qs
mul_zip n [] qs len x q = refl
mul_zip n (a ∷ xs) [] len x q = refl
mul_zip zero (a ∷ xs) (b ∷ qs) len x q = absurd (omega arith)
mul_zip (suc n) (a ∷ xs) (b ∷ qs) len x q =
    let len' : length xs ≡ n = omega arith in
    λ i. rounded_product a b x.0 q.0 i ∷ mul_zip n xs qs len' x.1 q.1 i

-- ---- words of two bytes

-- a word and the words behind it
word_first : (a b rest : ℕ) → a < 256 → b < 256 → (a + 256 * (b + 256 * rest)) % 65536 ≡ a + 256 * b
word_first a b rest x y = omega arith

word_rest : (a b rest : ℕ) → a < 256 → b < 256 → (a + 256 * (b + 256 * rest)) / 65536 ≡ rest
word_rest a b rest x y = omega arith

low_of : (a b : ℕ) → a < 256 → bit_and (a + 256 * b) 255 ≡ a
low_of a b x = and_mask (a + 256 * b) 8 ∙ omega arith

high_of : (a b : ℕ) → a < 256 → (a + 256 * b) / 2 ^ 8 ≡ b
high_of a b x = omega arith

pub lows_are : (n : ℕ) (xs : List ℕ) → length xs ≡ 2 * n → Each1 byte xs
    → zip2 bit_and (digits_l 65536 n (number_l 256 xs)) (replicate n 255) ≡ lows xs
lows_are zero [] len x = refl
lows_are zero (a ∷ xs) len x = absurd (omega arith)
lows_are (suc n) [] len x = absurd (omega arith)
lows_are (suc n) (a ∷ []) len x = absurd (omega arith)
lows_are (suc n) (a ∷ b ∷ xs) len x =
    let first = word_first a b (number_l 256 xs) x.0 x.1.0 in
    let rest = word_rest a b (number_l 256 xs) x.0 x.1.0 in
    rw (first, rest) (λ i. low_of a b x.0 i ∷ lows_are n xs (omega arith) x.1.1 i)

pub highs_are : (n : ℕ) (xs : List ℕ) → length xs ≡ 2 * n → Each1 byte xs
    → zip2 shifted_down (digits_l 65536 n (number_l 256 xs)) (replicate n 8) ≡ highs xs
highs_are zero [] len x = refl
highs_are zero (a ∷ xs) len x = absurd (omega arith)
highs_are (suc n) [] len x = absurd (omega arith)
highs_are (suc n) (a ∷ []) len x = absurd (omega arith)
highs_are (suc n) (a ∷ b ∷ xs) len x =
    let first = word_first a b (number_l 256 xs) x.0 x.1.0 in
    let rest = word_rest a b (number_l 256 xs) x.0 x.1.0 in
    rw (first, rest) (λ i. high_of a b x.0 i ∷ highs_are n xs (omega arith) x.1.1 i)

abbrev shifted_up : ℕ → ℕ → ℕ
shifted_up a b = a * 2 ^ b % 65536

word_of : (a b : ℕ) → a < 256 → b < 256 → bit_or a (b * 2 ^ 8 % 65536) ≡ a + 256 * b
word_of a b x y =
    let whole : b * 2 ^ 8 % 65536 ≡ b * 2 ^ 8 = mod-eq_of_lt (omega arith) in
    rw whole (or_shifted_r b 8 a x ∙ omega arith)

-- the bytes of a word and the words behind it
byte_first : (a b rest : ℕ) → a < 256 → b < 256 → (a + 256 * b + 65536 * rest) % 256 ≡ a
byte_first a b rest x y = omega arith

byte_second : (a b rest : ℕ) → a < 256 → b < 256 → (a + 256 * b + 65536 * rest) / 256 % 256 ≡ b
byte_second a b rest x y = omega arith

byte_rest : (a b rest : ℕ) → a < 256 → b < 256 → (a + 256 * b + 65536 * rest) / 256 / 256 ≡ rest
byte_rest a b rest x y = omega arith

pub joined_are : (n m : ℕ) (xs ys : List ℕ) → length xs ≡ n → length ys ≡ n → m ≡ 2 * n → Each1 byte xs → Each1 byte ys
    → digits_l 256 m (number_l 65536 (zip2 bit_or xs (zip2 shifted_up ys (replicate n 8)))) ≡ joined xs ys
joined_are n zero [] ys lx ly two x y = refl
joined_are n (suc m) [] ys lx ly two x y = absurd (omega arith)
joined_are zero m (a ∷ xs) ys lx ly two x y = absurd (omega arith)
joined_are (suc n) m (a ∷ xs) [] lx ly two x y = absurd (omega arith)
joined_are (suc n) zero (a ∷ xs) (b ∷ ys) lx ly two x y = absurd (omega arith)
joined_are (suc n) (suc zero) (a ∷ xs) (b ∷ ys) lx ly two x y = absurd (omega arith)
joined_are (suc n) (suc (suc m)) (a ∷ xs) (b ∷ ys) lx ly two x y =
    let rest : ℕ = number_l 65536 (zip2 bit_or xs (zip2 shifted_up ys (replicate n 8))) in
    rw (word_of a b x.0 y.0, byte_second a b rest x.0 y.0, byte_rest a b rest x.0 y.0, byte_first a b rest x.0 y.0)
    (ap (λ (l : List ℕ). a ∷ b ∷ l) (joined_are n m xs ys (omega arith) (omega arith) (omega arith) x.1 y.1))

-- ---- swizzles
pub seconds_are : (xs : List ℕ) → length xs ≡ 16
    → pick_l 0 (xs ++ xs) (1 ∷ 1 ∷ 3 ∷ 3 ∷ 5 ∷ 5 ∷ 7 ∷ 7 ∷ 9 ∷ 9 ∷ 11 ∷ 11 ∷ 13 ∷ 13 ∷ 15 ∷ 15 ∷ []) ≡ seconds xs
seconds_are xs len =
    subst (λ (ys : List ℕ). pick_l 0 (ys ++ ys) (1 ∷ 1 ∷ 3 ∷ 3 ∷ 5 ∷ 5 ∷ 7 ∷ 7 ∷ 9 ∷ 9 ∷ 11 ∷ 11 ∷ 13 ∷ 13 ∷ 15 ∷ 15 ∷ []) ≡ seconds ys)
    (pick_l_whole 0 xs 16 len) refl

pub twice_are : (xs : List ℕ) → length xs ≡ 8
    → pick_l 0 (map (λ x. x) xs ++ map (λ x. x) xs) (0 ∷ 0 ∷ 1 ∷ 1 ∷ 2 ∷ 2 ∷ 3 ∷ 3 ∷ 4 ∷ 4 ∷ 5 ∷ 5 ∷ 6 ∷ 6 ∷ 7 ∷ 7 ∷ []) ≡ twice xs
twice_are xs len =
    subst (λ (ys : List ℕ). pick_l 0 (map (λ x. x) ys ++ map (λ x. x) ys) (0 ∷ 0 ∷ 1 ∷ 1 ∷ 2 ∷ 2 ∷ 3 ∷ 3 ∷ 4 ∷ 4 ∷ 5 ∷ 5 ∷ 6 ∷ 6 ∷ 7 ∷ 7
    ∷ []) ≡ twice ys) (pick_l_whole 0 xs 8 len) refl

-- ---- sums that stop at 255
abbrev lane_sum : ℕ → ℕ → ℕ
lane_sum x y = (x + cond (top 7 (cond (ltb y (255 - x)) 255 0)) y (255 - x)) % 256

sum_lane : (x y : ℕ) → x < 256 → y < 256 → lane_sum x y ≡ min 255 (x + y)
sum_lane x y a b = grind (arith, nat_tests)

pub sum_zip : (xs ys : List ℕ) → Each1 byte xs → Each1 byte ys
    → zip2 (λ a b. (a + b) % 256) xs (sel_l (map (top 7) (zip2 (λ a b. cond (ltb a b) 255 0) ys (map (λ a. 255 - a) xs))) ys
    (map (λ a. 255 - a) xs))
    ≡ zip2 (λ a b. min 255 (a + b)) xs ys
sum_zip [] ys x y = refl
sum_zip (a ∷ xs) [] x y = refl
sum_zip (a ∷ xs) (b ∷ ys) x y = λ i. sum_lane a b x.0 y.0 i ∷ sum_zip xs ys x.1 y.1 i

-- ---- alpha 255
abbrev alphas : ℕ → List ℕ
alphas zero = []
alphas (suc n) = 0 ∷ 255 ∷ alphas n

pub or_zero : (a : ℕ) → bit_or a 0 ≡ a
or_zero a = omega (arith, or_add_and a 0, and_le_r a 0)

pub or_full : (a : ℕ) → a < 256 → bit_or a 255 ≡ 255
or_full a x = omega (arith, or_add_and a 255, and_mask a 8)

pub solid_are : (n : ℕ) (xs : List ℕ) → length xs ≡ 2 * n → Each1 byte xs → zip2 bit_or xs (alphas n) ≡ solid xs
solid_are n [] len x = refl
solid_are zero (a ∷ []) len x = refl
solid_are (suc n) (a ∷ []) len x = absurd (omega arith)
solid_are zero (a ∷ b ∷ xs) len x = absurd (omega arith)
solid_are (suc n) (a ∷ b ∷ xs) len x = λ i. or_zero a i ∷ or_full b x.1.0 i ∷ solid_are n xs (omega arith) x.1.1 i

-- ---- all of these are bytes again

product_byte : (a b : ℕ) → a < 256 → b < 256 → mul a b < 256
product_byte a b x y = let le : a * b ≤ 65025 = product_bound a b x y in omega arith

each_product : (xs qs : List ℕ) → Each1 byte xs → Each1 byte qs → Each1 byte (zip2 mul xs qs)
each_product [] qs x q = tt
each_product (a ∷ xs) [] x q = tt
each_product (a ∷ xs) (b ∷ qs) x q = (product_byte a b x.0 q.0, each_product xs qs x.1 q.1)

pub mul-Bytes : (n : ℕ) (xs qs : List ℕ) → AreBytes n xs → AreBytes n qs → AreBytes n (zip2 mul xs qs)
mul-Bytes n xs qs x q = record {
  count = length-zip2 mul xs qs (x.count ∙ sym q.count) ∙ x.count;
  below = each_product xs qs x.below q.below;
}

each_lack : (xs : List ℕ) → Each1 byte (map (λ a. 255 - a) xs)
each_lack [] = tt
each_lack (a ∷ xs) = (omega arith, each_lack xs)

pub lacking-Bytes : (n : ℕ) (xs : List ℕ) → AreBytes n xs → AreBytes n (map (λ a. 255 - a) xs)
lacking-Bytes n xs x = record { count = length-map xs (λ a. 255 - a) ∙ x.count; below = each_lack xs }

pub seconds-Bytes : (n : ℕ) (xs : List ℕ) → AreBytes (2 * n) xs → AreBytes (2 * n) (seconds xs)
seconds-Bytes zero [] x = x
seconds-Bytes zero (a ∷ xs) x = let len = x.count in absurd (omega arith)
seconds-Bytes (suc n) [] x = let len = x.count in absurd (omega arith)
seconds-Bytes (suc n) (a ∷ []) x = let len = x.count in absurd (omega arith)
seconds-Bytes (suc n) (a ∷ b ∷ xs) x =
    let len = x.count in
    let rest = seconds-Bytes n xs (record { count = omega arith; below = x.below.1.1 }) in
    let rest_len = rest.count in
    record { count = omega arith; below = (x.below.1.0, (x.below.1.0, rest.below)) }

pub twice-Bytes : (n : ℕ) (xs : List ℕ) → AreBytes n xs → AreBytes (2 * n) (twice xs)
twice-Bytes n [] x = let len = x.count in record { count = omega arith; below = tt }
twice-Bytes zero (a ∷ xs) x = let len = x.count in absurd (omega arith)
twice-Bytes (suc n) (a ∷ xs) x =
    let len = x.count in
    let rest = twice-Bytes n xs (record { count = omega arith; below = x.below.1 }) in
    let rest_len = rest.count in
    record { count = omega arith; below = (x.below.0, (x.below.0, rest.below)) }

pub lows-Bytes : (n : ℕ) (xs : List ℕ) → AreBytes (2 * n) xs → AreBytes n (lows xs)
lows-Bytes zero [] x = record { count = refl; below = tt }
lows-Bytes zero (a ∷ xs) x = let len = x.count in absurd (omega arith)
lows-Bytes (suc n) [] x = let len = x.count in absurd (omega arith)
lows-Bytes (suc n) (a ∷ []) x = let len = x.count in absurd (omega arith)
lows-Bytes (suc n) (a ∷ b ∷ xs) x =
    let len = x.count in
    let rest = lows-Bytes n xs (record { count = omega arith; below = x.below.1.1 }) in
    record { count = ap suc rest.count; below = (x.below.0, rest.below) }

pub highs-Bytes : (n : ℕ) (xs : List ℕ) → AreBytes (2 * n) xs → AreBytes n (highs xs)
highs-Bytes zero [] x = record { count = refl; below = tt }
highs-Bytes zero (a ∷ xs) x = let len = x.count in absurd (omega arith)
highs-Bytes (suc n) [] x = let len = x.count in absurd (omega arith)
highs-Bytes (suc n) (a ∷ []) x = let len = x.count in absurd (omega arith)
highs-Bytes (suc n) (a ∷ b ∷ xs) x =
    let len = x.count in
    let rest = highs-Bytes n xs (record { count = omega arith; below = x.below.1.1 }) in
    record { count = ap suc rest.count; below = (x.below.1.0, rest.below) }

pub joined-Bytes : (n : ℕ) (xs ys : List ℕ) → AreBytes n xs → AreBytes n ys → AreBytes (2 * n) (joined xs ys)
joined-Bytes zero [] ys x y = record { count = refl; below = tt }
joined-Bytes (suc n) [] ys x y = let len = x.count in absurd (omega arith)
joined-Bytes zero (a ∷ xs) ys x y = let len = x.count in absurd (omega arith)
joined-Bytes (suc n) (a ∷ xs) [] x y = let len = y.count in absurd (omega arith)
joined-Bytes (suc n) (a ∷ xs) (b ∷ ys) x y =
    let lx = x.count in
    let ly = y.count in
    let rest = joined-Bytes n xs ys (record { count = omega arith; below = x.below.1 })
    (record { count = omega arith; below = y.below.1 }) in
    let rest_len = rest.count in
    record { count = omega arith; below = (x.below.0, (y.below.0, rest.below)) }

each_sum : (xs ys : List ℕ) → Each1 byte (zip2 (λ a b. min 255 (a + b)) xs ys)
each_sum [] ys = tt
each_sum (a ∷ xs) [] = tt
each_sum (a ∷ xs) (b ∷ ys) = (omega arith, each_sum xs ys)

pub sum-Bytes : (n : ℕ) (xs ys : List ℕ) → AreBytes n xs → AreBytes n ys → AreBytes n (zip2 (λ a b. min 255 (a + b)) xs ys)
sum-Bytes n xs ys x y = record {
  count = length-zip2 (λ a b. min 255 (a + b)) xs ys (x.count ∙ sym y.count) ∙ x.count;
  below = each_sum xs ys;
}

pub solid-Bytes : (n : ℕ) (xs : List ℕ) → AreBytes (2 * n) xs → AreBytes (2 * n) (solid xs)
solid-Bytes zero [] x = x
solid-Bytes zero (a ∷ xs) x = let len = x.count in absurd (omega arith)
solid-Bytes (suc n) [] x = let len = x.count in absurd (omega arith)
solid-Bytes (suc n) (a ∷ []) x = let len = x.count in absurd (omega arith)
solid-Bytes (suc n) (a ∷ b ∷ xs) x =
    let len = x.count in
    let rest = solid-Bytes n xs (record { count = omega arith; below = x.below.1.1 }) in
    let rest_len = rest.count in
    record { count = omega arith; below = (x.below.0, (omega arith, rest.below)) }
