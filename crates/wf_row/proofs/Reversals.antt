-- Pixels from the last one to the first.
use Rattle.std.proofs.Common.{◌≡◌, ℕ, zero, suc, ◌+◌, ◌-◌, ◌*◌, ◌≤◌, List, [], ◌∷◌, ◌++◌, length, take, drop, refl, sym, ap, subst, ◌∙◌}
use Rattle.std.proofs.Common.{arith, append_assoc, length-append}
use Rattle.std.specs.Simd.Lanes.{chunk, put_chunk, pick_l, Each1}
use Rattle.std.proofs.lemmas.Simd.{pick_l_whole, chunk-drop, length-chunk, put_chunk_is}
use Rattle.std.proofs.lemmas.List.{take_at, drop_all, drop-drop, append-nil, length-drop, take-append-drop, length-take-le}
use Rattle.std.proofs.Math.Seq.{drop-append_seam}
use borrow.Rule.Slice.PartMut.{put_mid}
use Rattle.wf_row.specs.Gather.{reversed}

pub reversed_are : (xs : List ℕ) → length xs ≡ 16
    → pick_l 0 (xs ++ xs) (12 ∷ 13 ∷ 14 ∷ 15 ∷ 8 ∷ 9 ∷ 10 ∷ 11 ∷ 4 ∷ 5 ∷ 6 ∷ 7 ∷ 0 ∷ 1 ∷ 2 ∷ 3 ∷ []) ≡ reversed xs
reversed_are xs len =
    subst (λ (ys : List ℕ). pick_l 0 (ys ++ ys) (12 ∷ 13 ∷ 14 ∷ 15 ∷ 8 ∷ 9 ∷ 10 ∷ 11 ∷ 4 ∷ 5 ∷ 6 ∷ 7 ∷ 0 ∷ 1 ∷ 2 ∷ 3 ∷ []) ≡ reversed ys)
    (pick_l_whole 0 xs 16 len) refl

pub reversed_append : (m : ℕ) (xs ys : List ℕ) → length xs ≡ 4 * m → reversed (xs ++ ys) ≡ reversed ys ++ reversed xs
reversed_append zero [] ys len = sym (append-nil (reversed ys))
reversed_append zero (r ∷ xs) ys len = absurd (omega arith)
reversed_append (suc m) [] ys len = absurd (omega arith)
reversed_append (suc m) (r ∷ []) ys len = absurd (omega arith)
reversed_append (suc m) (r ∷ g ∷ []) ys len = absurd (omega arith)
reversed_append (suc m) (r ∷ g ∷ b ∷ []) ys len = absurd (omega arith)
reversed_append (suc m) (r ∷ g ∷ b ∷ a ∷ xs) ys len =
    ap (λ (l : List ℕ). l ++ (r ∷ g ∷ b ∷ a ∷ [])) (reversed_append m xs ys (omega arith))
    ∙ append_assoc (reversed ys) (reversed xs) (r ∷ g ∷ b ∷ a ∷ [])

pub reversed_count : (m : ℕ) (xs : List ℕ) → length xs ≡ 4 * m → length (reversed xs) ≡ 4 * m
reversed_count zero [] len = refl
reversed_count zero (r ∷ xs) len = absurd (omega arith)
reversed_count (suc m) [] len = absurd (omega arith)
reversed_count (suc m) (r ∷ []) len = absurd (omega arith)
reversed_count (suc m) (r ∷ g ∷ []) len = absurd (omega arith)
reversed_count (suc m) (r ∷ g ∷ b ∷ []) len = absurd (omega arith)
reversed_count (suc m) (r ∷ g ∷ b ∷ a ∷ xs) len = omega (
  arith,
  length-append (reversed xs) (r ∷ g ∷ b ∷ a ∷ []),
  reversed_count m xs (omega arith),
)

-- the last n bytes reversed, and the others as they were
abbrev pub reversed_to : ℕ → List ℕ → List ℕ → List ℕ
reversed_to n src old = reversed (drop (length src - n) src) ++ drop n old

-- 16 bytes more
pub reversed_more : (m n next from j : ℕ) (src old row piece : List ℕ) → length src ≡ 4 * j → n ≡ 4 * m → next ≡ n + 16 → next ≤ length src
    → from ≡ length src - 16 - n → length old ≡ length src → length row ≡ length src
    → row ≡ reversed_to n src old → piece ≡ reversed (chunk from 16 src) → put_chunk n row piece ≡ reversed_to next src old
reversed_more m n next from j src old row piece whole n_is next_is room from_is same rows before piece_is =
    let last : List ℕ = drop (length src - n) src in
    let last_len : length last ≡ 4 * m = length-drop (length src - n) src ∙ omega arith in
    let done_len : n ≡ length (reversed last) = n_is ∙ sym (reversed_count m last last_len) in
    let chunk_len : length (chunk from 16 src) ≡ 4 * 4 = length-chunk from 16 src (omega arith) in
    let piece_len : length piece ≡ 16 = ap length piece_is ∙ reversed_count 4 (chunk from 16 src) chunk_len in
    let front : take n row ≡ reversed last = ap (take n) before ∙ take_at (reversed last) (drop n old) n (sym done_len) in
    let rest : drop n row ≡ drop n old = ap (drop n) before ∙ ap (λ (i : ℕ). drop i (reversed last ++ drop n old)) done_len
    ∙ drop-append_seam (reversed last) (drop n old) in
    let behind : drop (length piece) (drop n row) ≡ drop next old =
    ap (λ (i : ℕ). drop i (drop n row)) piece_len ∙ ap (drop 16) rest ∙ drop-drop 16 n old ∙ ap (λ (i : ℕ). drop i old) (sym next_is) in
    let end : from + 16 ≡ length src - n = omega arith in
    let start : length src - next ≡ from = omega arith in
    let split : drop (length src - next) src ≡ chunk from 16 src ++ last =
    ap (λ (i : ℕ). drop i src) start ∙ chunk-drop from 16 src ∙ ap (λ (i : ℕ). chunk from 16 src ++ drop i src) end in
    put_chunk_is n row piece (omega arith)
    ∙ (λ i. front i ++ (piece_is i ++ behind i))
    ∙ sym (append_assoc (reversed last) (reversed (chunk from 16 src)) (drop next old))
    ∙ ap (λ (l : List ℕ). l ++ drop next old) (sym (reversed_append 4 (chunk from 16 src) last chunk_len))
    ∙ ap (λ (l : List ℕ). reversed l ++ drop next old) (sym split)

-- the bytes that are left, as one piece
pub reversed_rest : (m n k j : ℕ) (src old row piece : List ℕ) → length src ≡ 4 * j → n ≡ 4 * m → n + k ≡ length src
    → length old ≡ length src → length row ≡ length src
    → row ≡ reversed_to n src old → piece ≡ reversed (take k src) → put_mid n k row piece ≡ reversed src
reversed_rest m n k j src old row piece whole n_is end same rows before piece_is =
    let last : List ℕ = drop (length src - n) src in
    let last_len : length last ≡ 4 * m = length-drop (length src - n) src ∙ omega arith in
    let done_len : n ≡ length (reversed last) = n_is ∙ sym (reversed_count m last last_len) in
    let front : take n row ≡ reversed last = ap (take n) before ∙ take_at (reversed last) (drop n old) n (sym done_len) in
    let first_len : length (take k src) ≡ 4 * (j - m) = length-take-le k src (omega arith) ∙ omega arith in
    let cut : length src - n ≡ k = omega arith in
    let none : drop k (drop n row) ≡ [] = drop-drop k n row ∙ drop_all (n + k) row (omega arith) in
    (λ i. front i ++ (piece_is i ++ none i))
    ∙ ap (λ (l : List ℕ). reversed last ++ l) (append-nil (reversed (take k src)))
    ∙ sym (reversed_append (j - m) (take k src) last first_len)
    ∙ ap (λ (i : ℕ). reversed (take k src ++ drop i src)) cut
    ∙ ap reversed (take-append-drop k src)

-- of padded pixels the last are those that were asked for
pub padded_reversed : (m j n : ℕ) (xs zeros : List ℕ) → length xs ≡ 4 * m → length zeros ≡ 4 * j → n ≡ length zeros
    → drop n (reversed (xs ++ zeros)) ≡ reversed xs
padded_reversed m j n xs zeros len more n_is =
    ap (drop n) (reversed_append m xs zeros len)
    ∙ ap (λ (i : ℕ). drop i (reversed zeros ++ reversed xs)) (n_is ∙ more ∙ sym (reversed_count j zeros more))
    ∙ drop-append_seam (reversed zeros) (reversed xs)

-- a piece of reversed pixels is a piece of the pixels, reversed
pub chunk_reversed : (q m j n k from : ℕ) (src : List ℕ) → length src ≡ 4 * q → n ≡ 4 * m → k ≡ 4 * j → from + k + n ≡ length src
    → chunk n k (reversed src) ≡ reversed (chunk from k src)
chunk_reversed q m j n k from src whole n_is k_is end =
    let first : List ℕ = take from src in
    let piece : List ℕ = chunk from k src in
    let last : List ℕ = drop (from + k) src in
    let first_len : length first ≡ 4 * (q - m - j) = length-take-le from src (omega arith) ∙ omega arith in
    let piece_len : length piece ≡ 4 * j = length-chunk from k src (omega arith) ∙ k_is in
    let last_len : length last ≡ 4 * m = length-drop (from + k) src ∙ omega arith in
    let split : src ≡ first ++ (piece ++ last) =
    sym (take-append-drop from src) ∙ ap (λ (l : List ℕ). first ++ l) (chunk-drop from k src) in
    let all : reversed src ≡ reversed last ++ (reversed piece ++ reversed first) =
    ap reversed split ∙ reversed_append (q - m - j) first (piece ++ last) first_len
    ∙ ap (λ (l : List ℕ). l ++ reversed first) (reversed_append j piece last piece_len)
    ∙ append_assoc (reversed last) (reversed piece) (reversed first) in
    let before : n ≡ length (reversed last) = n_is ∙ sym (reversed_count m last last_len) in
    let count : length (reversed piece) ≡ k = reversed_count j piece piece_len ∙ sym k_is in
    ap (chunk n k) all
    ∙ ap (take k) (ap (λ (i : ℕ). drop i (reversed last ++ (reversed piece ++ reversed first))) before
    ∙ drop-append_seam (reversed last) (reversed piece ++ reversed first))
    ∙ take_at (reversed piece) (reversed first) k count

-- a pixel by itself
pub one_reversed : (xs : List ℕ) → length xs ≡ 4 → reversed xs ≡ xs
one_reversed [] len = absurd (omega arith)
one_reversed (r ∷ []) len = absurd (omega arith)
one_reversed (r ∷ g ∷ []) len = absurd (omega arith)
one_reversed (r ∷ g ∷ b ∷ []) len = absurd (omega arith)
one_reversed (r ∷ g ∷ b ∷ a ∷ []) len = refl
one_reversed (r ∷ g ∷ b ∷ a ∷ x ∷ xs) len = absurd (omega arith)

-- what holds of each byte
pub each_append : (P : ℕ → Type 0) (xs ys : List ℕ) → Each1 P xs → Each1 P ys → Each1 P (xs ++ ys)
each_append P [] ys x y = y
each_append P (a ∷ xs) ys x y = (x.0, each_append P xs ys x.1 y)

pub each_reversed : (P : ℕ → Type 0) (xs : List ℕ) → Each1 P xs → Each1 P (reversed xs)
each_reversed P [] x = tt
each_reversed P (r ∷ []) x = tt
each_reversed P (r ∷ g ∷ []) x = tt
each_reversed P (r ∷ g ∷ b ∷ []) x = tt
each_reversed P (r ∷ g ∷ b ∷ a ∷ xs) x =
    each_append P (reversed xs) (r ∷ g ∷ b ∷ a ∷ []) (each_reversed P xs x.1.1.1.1) (x.0, (x.1.0, (x.1.1.0, (x.1.1.1.0, tt))))
