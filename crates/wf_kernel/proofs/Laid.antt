-- A layer laid over a row of which it covers a part, or nothing.
use Rattle.std.proofs.Common.{◌≡◌, ℕ, ◌+◌, ◌-◌, ◌*◌, ◌<◌, ◌≤◌, List, ◌++◌, length, take, drop, refl, sym, ap, ◌∙◌, append_assoc, arith}
use Rattle.std.proofs.Common.{zero-add, add-zero}
use Rattle.std.specs.Prelude.{flat_map, Option, None}
use Rattle.std.specs.List.{range_with_len}
use Rattle.std.specs.Simd.Lanes.{chunk}
use Rattle.std.proofs.lemmas.List.{take_all, length-drop}
use Rattle.wf_pixel.specs.declared.Format.TheVariants.{Rgba8Pre}
use Rattle.wf_pixel.specs.declared.Rgba.{Rgba}
use Rattle.wf_image.specs.Bitmap.{stored, read_at}
use Rattle.wf_model.specs.Picture.{on_top}
use Rattle.wf_kernel.specs.Laid.{laid}
use Rattle.wf_kernel.proofs.Pixels.{pieces_same, pieces_shift, pieces_split, cells, read_chunk}

-- the layer shows nothing there
pub nothing_laid : (w : ℕ) (texel : ℕ → Option Rgba) (row : List ℕ) → length row ≡ 4 * w → ((x : ℕ) → x < w → texel x ≡ None)
    → row ≡ laid w texel row
nothing_laid w texel row len none =
    sym (take_all (4 * w) row (omega arith))
    ∙ cells row 0 w 0 (omega arith) (omega arith)
    ∙ pieces_same (λ x. stored Rgba8Pre (read_at Rgba8Pre row (4 * x)))
    (λ x. stored Rgba8Pre (on_top (texel x) (read_at Rgba8Pre row (4 * x)))) 0 w
    (λ x low high. ap (λ (t : Option Rgba). stored Rgba8Pre (on_top t (read_at Rgba8Pre row (4 * x)))) (sym (none x (omega arith))))

-- texels that are the same
pub laid_same : (w : ℕ) (f g : ℕ → Option Rgba) (row : List ℕ) → ((x : ℕ) → x < w → f x ≡ g x) → laid w f row ≡ laid w g row
laid_same w f g row same =
    pieces_same (λ x. stored Rgba8Pre (on_top (f x) (read_at Rgba8Pre row (4 * x))))
    (λ x. stored Rgba8Pre (on_top (g x) (read_at Rgba8Pre row (4 * x)))) 0 w
    (λ x low high. ap (λ (t : Option Rgba). stored Rgba8Pre (on_top t (read_at Rgba8Pre row (4 * x)))) (same x (omega arith)))

-- a part of a row takes a layer's texels, and the layer shows nothing beside it
pub part_laid : (w a n : ℕ) (texel : ℕ → Option Rgba) (row piece : List ℕ) → a + n ≤ w → length row ≡ 4 * w
    → ((x : ℕ) → x < a → texel x ≡ None) → ((x : ℕ) → a + n ≤ x → x < w → texel x ≡ None)
    → piece ≡ laid n (λ i. texel (a + i)) (chunk (4 * a) (4 * n) row)
    → take (4 * a) row ++ (piece ++ drop (4 * (a + n)) row) ≡ laid w texel row
part_laid w a n texel row piece within len before behind piece_is =
    let rest : ℕ = w - (a + n) in
    let f : ℕ → List ℕ = λ x. stored Rgba8Pre (on_top (texel x) (read_at Rgba8Pre row (4 * x))) in
    let kept : ℕ → List ℕ = λ x. stored Rgba8Pre (read_at Rgba8Pre row (4 * x)) in
    let front : take (4 * a) row ≡ flat_map f (range_with_len 0 a) =
    cells row 0 a 0 (omega arith) (omega arith)
    ∙ pieces_same kept f 0 a (λ x low high. ap (λ (t : Option Rgba). stored Rgba8Pre (on_top t (read_at Rgba8Pre row (4 * x))))
    (sym (before x (omega arith)))) in
    let middle : piece ≡ flat_map f (range_with_len a n) =
    piece_is
    ∙ pieces_same (λ i. stored Rgba8Pre (on_top (texel (a + i)) (read_at Rgba8Pre (chunk (4 * a) (4 * n) row) (4 * i)))) (λ i. f (a + i)) 0
    n
    (λ i low high. ap (λ (c : Rgba). stored Rgba8Pre (on_top (texel (a + i)) c))
    (read_chunk row (4 * a) n i (4 * (a + i)) (omega arith) (omega arith)))
    ∙ sym (pieces_shift f a 0 n) ∙ ap (λ (j : ℕ). flat_map f (range_with_len j n)) (add-zero a) in
    let left : length (drop (4 * (a + n)) row) ≡ 4 * rest = length-drop (4 * (a + n)) row ∙ omega arith in
    let back : drop (4 * (a + n)) row ≡ flat_map f (range_with_len (a + n) rest) =
    sym (take_all (4 * rest) (drop (4 * (a + n)) row) (omega arith))
    ∙ cells row (a + n) rest (4 * (a + n)) refl (omega arith)
    ∙ pieces_same kept f (a + n) rest (λ x low high. ap (λ (t : Option Rgba). stored Rgba8Pre (on_top t (read_at Rgba8Pre row (4 * x))))
    (sym (behind x low (omega arith)))) in
    let all : a + n + rest ≡ w = omega arith in
    (λ i. front i ++ (middle i ++ back i))
    ∙ sym (append_assoc (flat_map f (range_with_len 0 a)) (flat_map f (range_with_len a n)) (flat_map f (range_with_len (a + n) rest)))
    ∙ ap (λ (j : ℕ). (flat_map f (range_with_len 0 a) ++ flat_map f (range_with_len j n)) ++ flat_map f (range_with_len (a + n) rest))
    (sym (zero-add a))
    ∙ ap (λ (l : List ℕ). l ++ flat_map f (range_with_len (a + n) rest)) (sym (pieces_split f 0 a n))
    ∙ ap (λ (j : ℕ). flat_map f (range_with_len 0 (a + n)) ++ flat_map f (range_with_len j rest)) (sym (zero-add (a + n)))
    ∙ sym (pieces_split f 0 (a + n) rest)
    ∙ ap (λ (j : ℕ). flat_map f (range_with_len 0 j)) all
