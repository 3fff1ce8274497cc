-- Opaque pixels.
use Rattle.std.proofs.Common.{◌≡◌, ℕ, zero, suc, ◌+◌, ◌*◌, ◌<◌, ◌≤◌, List, [], ◌∷◌, ◌++◌, length, take, drop, get_or, bit_or, refl, sym, ap}
use Rattle.std.proofs.Common.{◌∙◌, arith, Fits, w8}
use Rattle.std.specs.Simd.Lanes.{zip2, Each1, chunk, put_chunk}
use Rattle.std.proofs.lemmas.Simd.{length-chunk, put_chunk_is, Each1-from_get_or}
use Rattle.std.proofs.lemmas.List.{drop-drop}
use Rattle.wf_pixel.specs.Arithmetic.{channel_over}
use Rattle.wf_row.specs.declared.AlphaMode.TheVariants.{Opaque}
use Rattle.wf_row.specs.Bytes.{premultiplied_bytes, over_bytes}
use Rattle.wf_row.proofs.Words.{or_zero, or_full}
use Rattle.wf_row.proofs.Rows.{Pixelwise, written, written_more, premultiplied_append, premultiplied_count}

-- the alpha bytes of n pixels
abbrev alphas : ℕ → List ℕ
alphas zero = []
alphas (suc n) = 0 ∷ 0 ∷ 0 ∷ 255 ∷ alphas n

pub opaque_are : (n : ℕ) (xs : List ℕ) → length xs ≡ 4 * n → Each1 (λ x. x < 256) xs
    → zip2 bit_or xs (alphas n) ≡ premultiplied_bytes Opaque xs
opaque_are zero [] len x = refl
opaque_are zero (r ∷ xs) len x = absurd (omega arith)
opaque_are (suc n) [] len x = absurd (omega arith)
opaque_are (suc n) (r ∷ []) len x = absurd (omega arith)
opaque_are (suc n) (r ∷ g ∷ []) len x = absurd (omega arith)
opaque_are (suc n) (r ∷ g ∷ b ∷ []) len x = absurd (omega arith)
opaque_are (suc n) (r ∷ g ∷ b ∷ a ∷ xs) len x =
    λ i. or_zero r i ∷ or_zero g i ∷ or_zero b i ∷ or_full a x.1.1.1.0 i ∷ opaque_are n xs (omega arith) x.1.1.1.1 i

-- an opaque row, whatever is below it
abbrev pub copied : List ℕ → List ℕ → List ℕ
copied xs ys = premultiplied_bytes Opaque xs

pub copied-Pixelwise : Pixelwise copied
copied-Pixelwise = record {
  append = λ m xs ys us vs x y. premultiplied_append Opaque m xs us x;
  count = λ m xs ys x y. premultiplied_count Opaque m xs x;
}

-- k bytes written at n
pub lanes_written : (f : List ℕ → List ℕ → List ℕ) → Pixelwise f → (m j n k next : ℕ) (src old row piece : List ℕ)
    → n ≡ 4 * m → k ≡ 4 * j → next ≡ n + k → next ≤ length src → length old ≡ length src → length row ≡ length src
    → row ≡ written f n src old → piece ≡ f (chunk n k src) (chunk n k row) → put_chunk n row piece ≡ written f next src old
lanes_written f p m j n k next src old row piece n_is k_is next_is room same rows before piece_is =
    let src_len : length (chunk n k src) ≡ 4 * j = length-chunk n k src (omega arith) ∙ k_is in
    let row_len : length (chunk n k row) ≡ 4 * j = length-chunk n k row (omega arith) ∙ k_is in
    let piece_len : length piece ≡ k = ap length piece_is ∙ p.count j (chunk n k src) (chunk n k row) src_len row_len ∙ sym k_is in
    let new_is : put_chunk n row piece ≡ take n row ++ (piece ++ drop next row) =
    put_chunk_is n row piece (omega arith)
    ∙ ap (λ (xs : List ℕ). take n row ++ (piece ++ xs)) (ap (λ (i : ℕ). drop i (drop n row)) piece_len ∙ drop-drop k n row
    ∙ ap (λ (i : ℕ). drop i row) (sym next_is)) in
    written_more f p m n k next src old row (put_chunk n row piece) piece n_is next_is room same before new_is piece_is

-- an opaque pixel over another is itself
channel_is : (p d : ℕ) → p < 256 → channel_over 255 p d ≡ p
channel_is p d x = omega arith

pub over_opaque : (m : ℕ) (xs ys : List ℕ) → length xs ≡ 4 * m → length ys ≡ 4 * m → Each1 (λ x. x < 256) xs
    → premultiplied_bytes Opaque xs ≡ over_bytes (premultiplied_bytes Opaque xs) ys
over_opaque zero [] ys l d x = refl
over_opaque zero (r ∷ xs) ys l d x = absurd (omega arith)
over_opaque (suc m) [] ys l d x = absurd (omega arith)
over_opaque (suc m) (r ∷ []) ys l d x = absurd (omega arith)
over_opaque (suc m) (r ∷ g ∷ []) ys l d x = absurd (omega arith)
over_opaque (suc m) (r ∷ g ∷ b ∷ []) ys l d x = absurd (omega arith)
over_opaque (suc m) (r ∷ g ∷ b ∷ a ∷ xs) [] l d x = absurd (omega arith)
over_opaque (suc m) (r ∷ g ∷ b ∷ a ∷ xs) (u ∷ []) l d x = absurd (omega arith)
over_opaque (suc m) (r ∷ g ∷ b ∷ a ∷ xs) (u ∷ v ∷ []) l d x = absurd (omega arith)
over_opaque (suc m) (r ∷ g ∷ b ∷ a ∷ xs) (u ∷ v ∷ w ∷ []) l d x = absurd (omega arith)
over_opaque (suc m) (r ∷ g ∷ b ∷ a ∷ xs) (u ∷ v ∷ w ∷ z ∷ ys) l d x =
    λ i. sym (channel_is r u x.0) i ∷ sym (channel_is g v x.1.0) i ∷ sym (channel_is b w x.1.1.0) i ∷ sym (channel_is 255 z (omega arith)) i
    ∷ over_opaque m xs ys (omega arith) (omega arith) x.1.1.1.1 i

pub copied_over : (m : ℕ) (xs ys : List ℕ) → length xs ≡ 4 * m → length ys ≡ 4 * m → ((i : ℕ) → Fits w8 (get_or xs i 0))
    → premultiplied_bytes Opaque xs ≡ over_bytes (premultiplied_bytes Opaque xs) ys
copied_over m xs ys l d fits = over_opaque m xs ys l d (Each1-from_get_or (λ x. x < 256) xs 0 (λ i _. (fits i).fits))
