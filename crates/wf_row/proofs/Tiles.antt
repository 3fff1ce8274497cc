-- Pixels of columns that stand one after the other.
use Rattle.std.proofs.Common.{◌≡◌, ℕ, zero, suc, ◌+◌, ◌-◌, ◌*◌, ◌<◌, ◌≤◌, List, ◌++◌, length, get_or, refl, sym, ap, subst, ◌∙◌, arith}
use Rattle.std.proofs.Common.{add-zero, length-append, inl, inr}
use Rattle.std.specs.List.{range_with_len}
use Rattle.std.proofs.Math.Nat.{mul-le-mul_left}
use Rattle.std.proofs.lemmas.Bool.{cases_order}
use Rattle.std.proofs.lemmas.Bool.Decides.{leb_tells}
use Rattle.std.specs.Simd.Lanes.{chunk, put_chunk, pick_l}
use Rattle.std.proofs.lemmas.List.{get_or_append_left, get_or-append_right}
use Rattle.std.proofs.lemmas.Simd.{length-chunk, length-put_chunk, get_or-chunk, pick_l_whole}
use Rattle.std.proofs.lemmas.Simd.{get_or-put_chunk_below, get_or-put_chunk_at, get_or-put_chunk_above}
use Rattle.wf_row.specs.Gather.{turned_lanes}

-- columns of n pixels: one ends before the next ones begin
pub column_ends : (n b j : ℕ) → b < j → n * b + n ≤ n * j
column_ends n b j less =
    let to : n * (b + 1) ≤ n * j = mul-le-mul_left n (omega arith) in
    let one : n * (b + 1) ≡ n * b + n = grind arith in
    omega arith

-- pixel a of column b has the bytes of a source that begin at `from`
abbrev pub Holds : ℕ → List ℕ → List ℕ → ℕ → ℕ → ℕ → Type 0
Holds n src out from a b = (k : ℕ) → k < 4 → get_or out (4 * (n * b + a) + k) 0 ≡ get_or src (from + k) 0

-- it is one of m pixels of column j, from pixel i on
abbrev pub IsAmong : ℕ → ℕ → ℕ → ℕ → ℕ → Type 0
IsAmong m i j a b = (b ≡ j) × (i ≤ a) × (a < i + m)

-- m pixels of a column written: each of these holds what was written, and any other one what it held
pub pixel_put : (n m i j a b from : ℕ) (src out piece : List ℕ) → length piece ≡ 4 * m → i + m ≤ n → a < n
    → 4 * (n * j + i) + 4 * m ≤ length out
    → (IsAmong m i j a b → (k : ℕ) → k < 4 → get_or piece (4 * (a - i) + k) 0 ≡ get_or src (from + k) 0)
    → ((IsAmong m i j a b → ⊥) → Holds n src out from a b)
    → Holds n src (put_chunk (4 * (n * j + i)) out piece) from a b
pixel_put n m i j a b from src out piece len within low room new old k less =
    let at : ℕ = 4 * (n * j + i) in
    let place : ℕ = 4 * (n * b + a) + k in
    elim (cases_order b j) [
      | inr (inl before) ↦ let ends = column_ends n b j before in
          get_or-put_chunk_below at out piece place 0 (omega arith) ∙ old (λ is. absurd (omega (arith, is.0))) k less
      | inr (inr behind) ↦ let ends = column_ends n j b behind in
          get_or-put_chunk_above at out piece place 0 (omega arith) ∙ old (λ is. absurd (omega (arith, is.0))) k less
      | inl same ↦ let column : n * b ≡ n * j = ap (λ (x : ℕ). n * x) same in
          elim (leb_tells i a) [
            | inr above ↦ get_or-put_chunk_below at out piece place 0 (omega (arith, above.1))
                ∙ old (λ is. absurd (omega (arith, is.1, above.1))) k less
            | inl from_i ↦ elim (leb_tells (i + m) a) [
              | inl below ↦ get_or-put_chunk_above at out piece place 0 (omega (arith, below.1))
                  ∙ old (λ is. absurd (omega (arith, is.2, below.1))) k less
              | inr inside ↦
                  let there : place ≡ at + (4 * (a - i) + k) = omega (arith, from_i.1) in
                  ap (λ (x : ℕ). get_or (put_chunk at out piece) x 0) there
                  ∙ get_or-put_chunk_at at out piece (4 * (a - i) + k) 0 (omega (arith, from_i.1, inside.1)) (omega arith)
                  ∙ new (same, from_i.1, inside.1) k less
            ]
          ]
    ]

-- ---- four rows of four pixels by their columns
-- the lanes of a vector, one by one
abbrev lanes : List ℕ → List ℕ
lanes xs = pick_l 0 xs (range_with_len 0 16)

-- two steps of shuffles turn the lanes, written out
abbrev pub TurnsLanes : List ℕ → List ℕ → ℕ → Type 0
TurnsLanes ks ls j =
    (a b c d : List ℕ) → pick_l 0 (pick_l 0 (lanes a ++ lanes b) ks ++ pick_l 0 (lanes c ++ lanes d) ks) ls
    ≡ turned_lanes j (lanes a) (lanes b) (lanes c) (lanes d)

-- two steps of shuffles that turn the lanes, written out, turn every vector
pub turned_are : (ks ls : List ℕ) (j : ℕ) → TurnsLanes ks ls j
    → (a b c d : List ℕ) → length a ≡ 16 → length b ≡ 16 → length c ≡ 16 → length d ≡ 16
    → pick_l 0 (pick_l 0 (a ++ b) ks ++ pick_l 0 (c ++ d) ks) ls ≡ turned_lanes j a b c d
turned_are ks ls j same a b c d la lb lc ld =
    let p : lanes a ≡ a = pick_l_whole 0 a 16 la in
    let q : lanes b ≡ b = pick_l_whole 0 b 16 lb in
    let r : lanes c ≡ c = pick_l_whole 0 c 16 lc in
    let s : lanes d ≡ d = pick_l_whole 0 d 16 ld in
    (λ i. pick_l 0 (pick_l 0 (sym p i ++ sym q i) ks ++ pick_l 0 (sym r i ++ sym s i) ks) ls)
    ∙ same a b c d
    ∙ (λ i. turned_lanes j (p i) (q i) (r i) (s i))

-- what holds of each of four
by_four : (P : ℕ → Type 0) → P 0 → P 1 → P 2 → P 3 → (m : ℕ) → m < 4 → P m
by_four P a b c d zero low = a
by_four P a b c d (suc zero) low = b
by_four P a b c d (suc (suc zero)) low = c
by_four P a b c d (suc (suc (suc zero))) low = d
by_four P a b c d (suc (suc (suc (suc m)))) low = absurd (omega arith)

-- a byte behind four others
behind_four : (xs ys : List ℕ) (i k : ℕ) → length xs ≡ 4 → i ≡ 4 + k → get_or (xs ++ ys) i 0 ≡ get_or ys k 0
behind_four xs ys i k len is =
    let rest : i - 4 ≡ k = omega arith in
    get_or-append_right xs ys 4 i 0 len (omega arith) ∙ ap (λ (n : ℕ). get_or ys n 0) rest

-- how many bytes four parts have
turned_count : (j : ℕ) (a b c d : List ℕ) → length (chunk (4 * j) 4 a) ≡ 4 → length (chunk (4 * j) 4 b) ≡ 4
    → length (chunk (4 * j) 4 c) ≡ 4 → length (chunk (4 * j) 4 d) ≡ 4 → length (turned_lanes j a b c d) ≡ 16
turned_count j a b c d la lb lc ld =
    let part : List ℕ → List ℕ = λ xs. chunk (4 * j) 4 xs in
    omega (
      arith,
      length-append (part a) (part b ++ (part c ++ part d)),
      length-append (part b) (part c ++ part d),
      length-append (part c) (part d),
    )

-- a byte of rows that were loaded and turned
turned_byte : (j : ℕ) (at : ℕ → ℕ) (src : List ℕ) → j < 4 → ((m : ℕ) → m < 4 → at m + 16 ≤ length src)
    → (m : ℕ) → m < 4 → (k : ℕ) → k < 4
    → get_or (turned_lanes j (chunk (at 0) 16 src) (chunk (at 1) 16 src) (chunk (at 2) 16 src) (chunk (at 3) 16 src)) (4 * m + k) 0
    ≡ get_or src (at m + 4 * j + k) 0
turned_byte j at src low room =
    let part : ℕ → List ℕ = λ m. chunk (4 * j) 4 (chunk (at m) 16 src) in
    let len : (m : ℕ) → m < 4 → length (part m) ≡ 4 = λ m less.
    let all = length-chunk (at m) 16 src (room m less) in
    length-chunk (4 * j) 4 (chunk (at m) 16 src) (omega arith) in
    let byte : (m k : ℕ) → k < 4 → get_or (part m) k 0 ≡ get_or src (at m + 4 * j + k) 0 = λ m k less.
    let to : at m + (4 * j + k) ≡ at m + 4 * j + k = omega arith in
    get_or-chunk (4 * j) 4 (chunk (at m) 16 src) k 0 less ∙ get_or-chunk (at m) 16 src (4 * j + k) 0 (omega arith)
    ∙ ap (λ (n : ℕ). get_or src n 0) to in
    let zero_len = len 0 (omega arith) in
    let one_len = len 1 (omega arith) in
    let two_len = len 2 (omega arith) in
    by_four (λ m. (k : ℕ) → k < 4 → get_or (part 0 ++ (part 1 ++ (part 2 ++ part 3))) (4 * m + k) 0 ≡ get_or src (at m + 4 * j + k) 0)
    (λ k less. get_or_append_left (part 0) (part 1 ++ (part 2 ++ part 3)) 0 (4 * 0 + k) (omega arith)
    ∙ ap (λ (n : ℕ). get_or (part 0) n 0) (omega arith) ∙ byte 0 k less)
    (λ k less. behind_four (part 0) (part 1 ++ (part 2 ++ part 3)) (4 * 1 + k) k zero_len (omega arith)
    ∙ get_or_append_left (part 1) (part 2 ++ part 3) 0 k (omega arith) ∙ byte 1 k less)
    (λ k less. behind_four (part 0) (part 1 ++ (part 2 ++ part 3)) (4 * 2 + k) (4 + k) zero_len (omega arith)
    ∙ behind_four (part 1) (part 2 ++ part 3) (4 + k) k one_len (omega arith)
    ∙ get_or_append_left (part 2) (part 3) 0 k (omega arith) ∙ byte 2 k less)
    (λ k less. behind_four (part 0) (part 1 ++ (part 2 ++ part 3)) (4 * 3 + k) (8 + k) zero_len (omega arith)
    ∙ behind_four (part 1) (part 2 ++ part 3) (8 + k) (4 + k) one_len (omega arith)
    ∙ behind_four (part 2) (part 3) (4 + k) k two_len (omega arith) ∙ byte 3 k less)

-- four pixels of column j, from pixel i on, as a source has them
pub record ArePixels (src : List ℕ) (from : ℕ → ℕ → ℕ) (i j : ℕ) (piece : List ℕ) : Type 0 where
  pub count : length piece ≡ 16
  pub byte : (m : ℕ) → m < 4 → (k : ℕ) → k < 4 → get_or piece (4 * m + k) 0 ≡ get_or src (from (i + m) j + k) 0

-- these written among eight columns: they hold, and what held still does
record Puts (n i j : ℕ) (src : List ℕ) (from : ℕ → ℕ → ℕ) (old new : List ℕ) : Type 0 where
  pub count : length new ≡ 32 * n
  pub fresh : (a : ℕ) → i ≤ a → a < i + 4 → Holds n src new (from a j) a j
  pub stays : (a b : ℕ) → a < n → Holds n src old (from a b) a b → Holds n src new (from a b) a b

four_put : (n i j : ℕ) (src : List ℕ) (from : ℕ → ℕ → ℕ) (out piece : List ℕ) → length out ≡ 32 * n → i + 4 ≤ n → j < 8
    → ArePixels src from i j piece → Puts n i j src from out (put_chunk (4 * (n * j + i)) out piece)
four_put n i j src from out piece len within low pixels =
    let end : n * j + n ≤ n * 8 = column_ends n j 8 low in
    let room : 4 * (n * j + i) + 4 * 4 ≤ length out = omega arith in
    let new : (a b : ℕ) → IsAmong 4 i j a b → (k : ℕ) → k < 4
    → get_or piece (4 * (a - i) + k) 0 ≡ get_or src (from a b + k) 0 = λ a b is k less.
    let high = is.1 in
    let inside = is.2 in
    let back : i + (a - i) ≡ a = omega arith in
    pixels.byte (a - i) (omega arith) k less ∙ (λ t. get_or src (from (back t) (sym is.0 t) + k) 0) in
    record {
      count = length-put_chunk (4 * (n * j + i)) out piece ∙ len;
      fresh = λ a high inside. pixel_put n 4 i j a j (from a j) src out piece pixels.count within (omega arith) room (new a j)
          (λ not. absurd (not (refl, high, inside)));
      stays = λ a b inner held. pixel_put n 4 i j a b (from a b) src out piece pixels.count within inner room (new a b) (λ _. held);
    }

-- the rows of a tile, loaded from column j on and turned: column q of them
pub tile_pixels : (column stride i j q b : ℕ) (src rows piece : List ℕ) → q < 4 → b ≡ j + q
    → ((m : ℕ) → m < 4 → 4 * (column + j + get_or rows (i + m) 0 * stride) + 16 ≤ length src)
    → piece ≡ turned_lanes q (chunk (4 * (column + j + get_or rows i 0 * stride)) 16 src)
    (chunk (4 * (column + j + get_or rows (i + 1) 0 * stride)) 16 src) (chunk (4 * (column + j + get_or rows (i + 2) 0 * stride)) 16 src)
    (chunk (4 * (column + j + get_or rows (i + 3) 0 * stride)) 16 src)
    → ArePixels src (λ a b. 4 * (column + b + get_or rows a 0 * stride)) i b piece
tile_pixels column stride i j q b src rows piece low b_is room is =
    let at : ℕ → ℕ = λ m. 4 * (column + j + get_or rows (i + m) 0 * stride) in
    let row : ℕ → List ℕ = λ m. chunk (at m) 16 src in
    let first : chunk (4 * (column + j + get_or rows i 0 * stride)) 16 src ≡ row 0 =
    ap (λ (a : ℕ). chunk (4 * (column + j + get_or rows a 0 * stride)) 16 src) (sym (add-zero i)) in
    let whole : piece ≡ turned_lanes q (row 0) (row 1) (row 2) (row 3) =
    is ∙ ap (λ (xs : List ℕ). turned_lanes q xs (row 1) (row 2) (row 3)) first in
    let part : (m : ℕ) → m < 4 → length (chunk (4 * q) 4 (row m)) ≡ 4 = λ m less.
    let all = length-chunk (at m) 16 src (room m less) in
    length-chunk (4 * q) 4 (row m) (omega arith) in
    record {
      count = ap length whole ∙ turned_count q (row 0) (row 1) (row 2) (row 3) (part 0 (omega arith)) (part 1 (omega arith))
          (part 2 (omega arith)) (part 3 (omega arith));
      byte = λ m less k inside.
          let to : at m + 4 * q + k ≡ 4 * (column + b + get_or rows (i + m) 0 * stride) + k = omega arith in
          ap (λ (xs : List ℕ). get_or xs (4 * m + k) 0) whole ∙ turned_byte q at src low room m less k inside
          ∙ ap (λ (n : ℕ). get_or src n 0) to;
    }

-- a tile written among eight columns: its pixels hold, and what held still does
pub record PutsTile (n i j : ℕ) (src : List ℕ) (from : ℕ → ℕ → ℕ) (old new : List ℕ) : Type 0 where
  pub fresh : (a b : ℕ) → i ≤ a → a < i + 4 → j ≤ b → b < j + 4 → Holds n src new (from a b) a b
  pub stays : (a b : ℕ) → a < n → Holds n src old (from a b) a b → Holds n src new (from a b) a b

-- its four columns written, one after the other
abbrev pub tile_written : ℕ → ℕ → ℕ → List ℕ → List ℕ → List ℕ → List ℕ → List ℕ → List ℕ
tile_written n i j out w x y z =
    put_chunk (4 * (n * (j + 3) + i)) (put_chunk (4 * (n * (j + 2) + i))
    (put_chunk (4 * (n * (j + 1) + i)) (put_chunk (4 * (n * j + i)) out w) x) y) z

pub tile_put : (n i j : ℕ) (src : List ℕ) (from : ℕ → ℕ → ℕ) (out w x y z : List ℕ) → length out ≡ 32 * n → i + 4 ≤ n → j ≤ 4
    → ArePixels src from i j w → ArePixels src from i (j + 1) x → ArePixels src from i (j + 2) y → ArePixels src from i (j + 3) z
    → PutsTile n i j src from out (tile_written n i j out w x y z)
tile_put n i j src from out w x y z len within low ws xs ys zs =
    let one : List ℕ = put_chunk (4 * (n * j + i)) out w in
    let two : List ℕ = put_chunk (4 * (n * (j + 1) + i)) one x in
    let three : List ℕ = put_chunk (4 * (n * (j + 2) + i)) two y in
    let four : List ℕ = put_chunk (4 * (n * (j + 3) + i)) three z in
    let p = four_put n i j src from out w len within (omega arith) ws in
    let q = four_put n i (j + 1) src from one x p.count within (omega arith) xs in
    let r = four_put n i (j + 2) src from two y q.count within (omega arith) ys in
    let s = four_put n i (j + 3) src from three z r.count within (omega arith) zs in
    record {
      fresh = λ a b high inside from_j below.
          let inner : a < n = omega arith in
          let P : ℕ → Type 0 = λ c. Holds n src four (from a c) a c in
          let back : j + (b - j) ≡ b = omega arith in
          subst P back (by_four (λ c. P (j + c))
          (subst P (sym (add-zero j)) (s.stays a j inner (r.stays a j inner (q.stays a j inner (p.fresh a high inside)))))
          (s.stays a (j + 1) inner (r.stays a (j + 1) inner (q.fresh a high inside)))
          (s.stays a (j + 2) inner (r.fresh a high inside))
          (s.fresh a high inside) (b - j) (omega arith));
      stays = λ a b inner held. s.stays a b inner (r.stays a b inner (q.stays a b inner (p.stays a b inner held)));
    }
