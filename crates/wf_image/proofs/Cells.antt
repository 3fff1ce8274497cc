-- The bytes of pixels, one after the other.
use Rattle.std.proofs.Common.{◌≡◌, ℕ, zero, suc, ◌+◌, ◌*◌, ◌<◌, ◌≤◌, List, [], ◌∷◌, ◌++◌, length, get_or, take, drop, refl, sym, ap, ◌∙◌}
use Rattle.std.proofs.Common.{append_assoc, arith, length-append, drop-cons}
use Rattle.std.specs.Prelude.{flat_map}
use Rattle.std.specs.List.{range_with_len}
use Rattle.std.proofs.Math.Seq.{take-add}
use Rattle.std.proofs.Math.Nat.{zero-add, add-zero, suc-add, zero-mul}
use Rattle.std.proofs.Math.Numerals.{add-one}
use Rattle.std.proofs.lemmas.List.{drop-drop}
use Rattle.wf_pixel.specs.declared.Rgba.{Rgba}
use Rattle.wf_pixel.specs.declared.Format.{Format}
use Rattle.wf_pixel.specs.declared.Format.TheVariants.{Rgba8, Rgba8Pre, Rgbx8, A8}
use Rattle.wf_image.specs.Bitmap.{pixel_bytes, stored, read_at}

-- two ranges, one behind the other
pub cells-add : (f : ℕ → List ℕ) (from m n : ℕ) → flat_map f (range_with_len from (m + n)) ≡ flat_map f (range_with_len from m)
    ++ flat_map f (range_with_len (from + m) n)
cells-add f from zero n = rw (zero-add n, add-zero from) refl
cells-add f from (suc m) n =
    let sum : from + 1 + m ≡ from + suc m = omega arith in
    rw (suc-add, ← sum) (ap (λ (cells : List ℕ). f from ++ cells) (cells-add f (from + 1) m n)
    ∙ sym (append_assoc (f from) (flat_map f (range_with_len (from + 1) m)) (flat_map f (range_with_len (from + 1 + m) n))))

-- the same cells in a range
pub cells_are : (f g : ℕ → List ℕ) (from n : ℕ) → ((x : ℕ) → from ≤ x → x < from + n → f x ≡ g x)
    → flat_map f (range_with_len from n) ≡ flat_map g (range_with_len from n)
cells_are f g from zero same = refl
cells_are f g from (suc n) same =
    ap (λ (cell : List ℕ). cell ++ flat_map f (range_with_len (from + 1) n)) (same from (omega arith) (omega arith))
    ∙ ap (λ (cells : List ℕ). g from ++ cells) (cells_are f g (from + 1) n (λ x low high. same x (omega arith) (omega arith)))

length-stored : (format : Format) (color : Rgba) → length (stored format color) ≡ pixel_bytes format
length-stored Rgba8 color = refl
length-stored Rgba8Pre color = refl
length-stored Rgbx8 color = refl
length-stored A8 color = refl

pub length-cells : (format : Format) (color : ℕ → Rgba) (from n : ℕ)
    → length (flat_map (λ x. stored format (color x)) (range_with_len from n)) ≡ n * pixel_bytes format
length-cells format color from zero = sym (zero-mul (pixel_bytes format))
length-cells format color from (suc n) =
    omega (
      arith,
      length-append (stored format (color from)) (flat_map (λ x. stored format (color x)) (range_with_len (from + 1) n)),
      length-stored format (color from),
      length-cells format color (from + 1) n,
    )

-- an element and those behind it
next : (xs : List ℕ) (i j : ℕ) → i < length xs → j ≡ i + 1 → drop i xs ≡ get_or xs i 0 ∷ drop j xs
next xs i j lt e = drop-cons xs i 0 lt ∙ ap (λ (k : ℕ). get_or xs i 0 ∷ drop k xs) (sym (e ∙ add-one i))

four : (xs : List ℕ) (i : ℕ) → i + 4 ≤ length xs → get_or xs i 0 ∷ get_or xs (i + 1) 0 ∷ get_or xs (i + 2) 0 ∷ get_or xs (i + 3) 0
    ∷ [] ≡ take 4 (drop i xs)
four xs i fits =
    rw (
      next xs i (i + 1) (omega arith) refl,
      next xs (i + 1) (i + 2) (omega arith) (omega arith),
      next xs (i + 2) (i + 3) (omega arith) (omega arith),
      next xs (i + 3) (i + 4) (omega arith) (omega arith),
    ) refl

-- a pixel that is read and stored again
cell_is : (format : Format) (xs : List ℕ) (i : ℕ) → i + pixel_bytes format ≤ length xs
    → stored format (read_at format xs i) ≡ take (pixel_bytes format) (drop i xs)
cell_is Rgba8 xs i fits = four xs i fits
cell_is Rgba8Pre xs i fits = four xs i fits
cell_is Rgbx8 xs i fits = four xs i fits
cell_is A8 xs i fits = rw (next xs i (i + 1) (omega arith) refl) refl

-- pixels that are read and stored again
pub kept : (format : Format) (xs : List ℕ) (from n : ℕ) → (from + n) * pixel_bytes format ≤ length xs
    → flat_map (λ x. stored format (read_at format xs (x * pixel_bytes format))) (range_with_len from n)
    ≡ take (n * pixel_bytes format) (drop (from * pixel_bytes format) xs)
kept format xs from zero fits = ap (λ (k : ℕ). take k (drop (from * pixel_bytes format) xs)) (sym (zero-mul (pixel_bytes format)))
kept format xs from (suc n) fits =
    let size = pixel_bytes format in
    let at : ℕ = from * size in
    let rest : List ℕ = drop at xs in
    let behind : drop ((from + 1) * size) xs ≡ drop size rest = ap (λ (k : ℕ). drop k xs) (omega arith) ∙ sym (drop-drop size at xs) in
    ap (λ (cell : List ℕ). cell ++ flat_map (λ x. stored format (read_at format xs (x * size))) (range_with_len (from + 1) n))
    (cell_is format xs at (omega arith))
    ∙ ap (λ (cells : List ℕ). take size rest ++ cells) (kept format xs (from + 1) n (omega arith) ∙ ap (take (n * size)) behind)
    ∙ sym (take-add size (n * size) rest) ∙ ap (λ (k : ℕ). take k rest) (omega arith)
