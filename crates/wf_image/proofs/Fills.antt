-- One colour everywhere.
use Rattle.std.proofs.Common.{◌≡◌, ℕ, zero, suc, ◌+◌, ◌*◌, ◌≤◌, List, [], ◌∷◌, ◌++◌, length, take, drop, refl, sym, ap, ◌∙◌}
use Rattle.std.proofs.Common.{append_assoc, arith, length-drop}
use Rattle.std.specs.Prelude.{flat_map, replicate, ◌/◌}
use Rattle.std.specs.List.{range_with_len}
use Rattle.std.proofs.Math.Nat.{zero-mul}
use Rattle.std.proofs.lemmas.List.{drop-drop, nil_from_length, append-nil}
use Rattle.std.proofs.lemmas.Simd.{put_chunk_is}
use lib.Lanes.{put_chunk}
use Rattle.wf_pixel.specs.declared.Size.{Size}
use Rattle.wf_pixel.specs.declared.Rgba.{Rgba}
use Rattle.wf_pixel.specs.declared.Format.{Format}
use Rattle.wf_pixel.specs.declared.Format.TheVariants.{Rgba8, Rgba8Pre, Rgbx8, A8}
use Rattle.wf_image.specs.declared.paint.Paint.TheVariants.{Fill}
use Rattle.wf_image.specs.Bitmap.{drawn, drawn_row, stored, image_bytes}
use Rattle.wf_image.specs.Paints.{painted_bytes}
use Rattle.wf_image.proofs.Cells.{cells-add, length-cells}
use Rattle.wf_image.proofs.Spans.{step}

-- a vector that is stored
pub put_is : (i : ℕ) (xs ys : List ℕ) (n : ℕ) → n ≡ i + length ys → n ≤ length xs → put_chunk i xs ys ≡ take i xs ++ ys ++ drop n xs
put_is i xs ys n same fits =
    put_chunk_is i xs ys (omega (arith, same, fits)) ∙ sym (append_assoc (take i xs) ys (drop (length ys) (drop i xs)))
    ∙ ap (λ (l : List ℕ). take i xs ++ ys ++ l) (drop-drop (length ys) i xs ∙ ap (λ (k : ℕ). drop k xs) (sym same))

-- the same cell n times
abbrev pub cells_of : List ℕ → ℕ → List ℕ
cells_of cell n = flat_map (λ x. cell) (range_with_len 0 n)

-- wherever it begins
elsewhere : (cell : List ℕ) (a b n : ℕ) → flat_map (λ x. cell) (range_with_len a n) ≡ flat_map (λ x. cell) (range_with_len b n)
elsewhere cell a b zero = refl
elsewhere cell a b (suc n) = ap (λ (l : List ℕ). cell ++ l) (elsewhere cell (a + 1) (b + 1) n)

-- rows of one cell are one row of it
rows_of : (cell : List ℕ) (w from h : ℕ) → flat_map (λ y. cells_of cell w) (range_with_len from h) ≡ cells_of cell (h * w)
rows_of cell w from zero = ap (cells_of cell) (sym (zero-mul w))
rows_of cell w from (suc h) =
    let sum : w + h * w ≡ suc h * w = omega arith in
    ap (λ (l : List ℕ). cells_of cell w ++ l) (rows_of cell w (from + 1) h ∙ elsewhere cell 0 (0 + w) (h * w))
    ∙ sym (cells-add (λ x. cell) 0 w (h * w)) ∙ ap (cells_of cell) sum

-- what a fill leaves
pub filled : (size : Size) (format : Format) (bytes : List ℕ) (color : Rgba)
    → painted_bytes size format bytes (Fill color) ≡ drawn_row (size.h * size.w) format (λ x. color)
unfolding drawn
filled size format bytes color = rows_of (stored format color) size.w 0 size.h

-- cells of one byte
pub bytes_are : (a n from : ℕ) → replicate n a ≡ flat_map (λ x. a ∷ []) (range_with_len from n)
bytes_are a zero from = refl
bytes_are a (suc n) from = ap (λ (l : List ℕ). a ∷ l) (bytes_are a n (from + 1))

-- k more cells
pub fills_on : (cell piece old new first : List ℕ) (x k y n m next size : ℕ) → piece ≡ flat_map (λ x. cell) (range_with_len (0 + x) k)
    → y ≡ x + k → length (cells_of cell x) ≡ n → m ≡ n + size → next ≡ m
    → old ≡ cells_of cell x ++ drop n first → new ≡ take n old ++ piece ++ drop m old → new ≡ cells_of cell y ++ drop next first
fills_on cell piece old new first x k y n m next size are more len sum same before after =
    step (cells_of cell x) piece old new first n size m len sum before after
    ∙ ap (λ (l : List ℕ). l ++ drop m first)
    (ap (λ (l : List ℕ). cells_of cell x ++ l) are ∙ sym (cells-add (λ x. cell) 0 x k) ∙ ap (cells_of cell) (sym more))
    ∙ ap (λ (j : ℕ). cells_of cell y ++ drop j first) (sym same)

-- how many bytes pixels take
pub length-fours : (color : Rgba) (x n : ℕ) → n ≡ 4 * x → length (cells_of (stored Rgba8 color) x) ≡ n
length-fours color x n same = length-cells Rgba8 (λ x. color) 0 x ∙ omega (arith, same)

-- nothing is left
pub all_filled : (cell old first : List ℕ) (x : ℕ) → length first ≤ 4 * x → old ≡ cells_of cell x ++ drop (4 * x) first
    → old ≡ cells_of cell x
all_filled cell old first x all before =
    let none : drop (4 * x) first ≡ [] = nil_from_length (drop (4 * x) first) (omega (arith, length-drop (4 * x) first, all)) in
    before ∙ ap (λ (l : List ℕ). cells_of cell x ++ l) none
    ∙ append-nil (cells_of cell x)

-- the same pixel eight times
abbrev pub eight_of : Rgba → List ℕ
eight_of c =
    c.r ∷ c.g ∷ c.b ∷ c.a ∷ c.r ∷ c.g ∷ c.b ∷ c.a ∷ c.r ∷ c.g ∷ c.b ∷ c.a ∷ c.r ∷ c.g ∷ c.b ∷ c.a ∷
    c.r ∷ c.g ∷ c.b ∷ c.a ∷ c.r ∷ c.g ∷ c.b ∷ c.a ∷ c.r ∷ c.g ∷ c.b ∷ c.a ∷ c.r ∷ c.g ∷ c.b ∷ c.a ∷ []

-- pixels of one byte everywhere
pub filled_masks : (size : Size) (format : Format) (bytes : List ℕ) (color : Rgba) → format ≡ A8 → length bytes ≡ image_bytes size format
    → replicate (length bytes) color.a ≡ painted_bytes size format bytes (Fill color)
filled_masks size Rgba8 bytes color is count = absurd cc
filled_masks size Rgba8Pre bytes color is count = absurd cc
filled_masks size Rgbx8 bytes color is count = absurd cc
filled_masks size A8 bytes color is count =
    let all : length bytes ≡ size.h * size.w = omega (arith, count) in
    bytes_are color.a (length bytes) 0 ∙ ap (cells_of (color.a ∷ [])) all ∙ sym (filled size A8 bytes color)

-- and of four
pub filled_pixels : (size : Size) (format : Format) (bytes : List ℕ) (color : Rgba) → ¬ (format ≡ A8)
    → length bytes ≡ image_bytes size format
    → drawn_row (length bytes / 4) Rgba8 (λ x. color) ≡ painted_bytes size format bytes (Fill color)
filled_pixels size Rgba8 bytes color other count =
    let all : length bytes / 4 ≡ size.h * size.w = omega (arith, count) in
    ap (cells_of (stored Rgba8 color)) all ∙ sym (filled size Rgba8 bytes color)
filled_pixels size Rgba8Pre bytes color other count =
    let all : length bytes / 4 ≡ size.h * size.w = omega (arith, count) in
    ap (cells_of (stored Rgba8 color)) all ∙ sym (filled size Rgba8Pre bytes color)
filled_pixels size Rgbx8 bytes color other count =
    let all : length bytes / 4 ≡ size.h * size.w = omega (arith, count) in
    ap (cells_of (stored Rgba8 color)) all ∙ sym (filled size Rgbx8 bytes color)
filled_pixels size A8 bytes color other count = absurd (other refl)
