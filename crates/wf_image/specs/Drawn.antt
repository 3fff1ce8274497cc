-- Images that are drawn pixel by pixel: their pixels, and their bytes in every format of four bytes.
use Rattle.std.proofs.Common.{◌≡◌, ℕ, zero, suc, ◌+◌, ◌-◌, ◌*◌, ◌/◌, ◌%◌, ◌<◌, ◌≤◌, List, [], ◌∷◌, ◌++◌, length, take, drop}
use Rattle.std.proofs.Common.{get_or, refl, sym, ap}
use Rattle.std.proofs.Common.{◌∙◌, arith, zero-add, add-zero}
use Rattle.std.specs.Prelude.{flat_map}
use Rattle.std.specs.List.{range_with_len}
use Rattle.std.specs.Simd.Lanes.{chunk}
use Rattle.std.proofs.Math.Seq.{take-add}
use Rattle.std.proofs.lemmas.List.{get_or-drop, drop-drop, take_all}
use Rattle.std.proofs.lemmas.Simd.{pick_l-range_with_len}
use Rattle.wf_pixel.specs.declared.Rgba.{Rgba}
use Rattle.wf_pixel.specs.declared.Size.{Size}
use Rattle.wf_pixel.specs.declared.Format.{Format}
use Rattle.wf_pixel.specs.declared.Format.TheVariants.{Rgba8, Rgba8Pre, Rgbx8, A8}
use Rattle.wf_image.specs.Bitmap.{Bitmap, stored, read_at, drawn_row, drawn, image_bytes, pixel, pixel_bytes}
use Rattle.wf_image.specs.Pieces.{drop_pieces, pieces_same, pieces_shift, pieces_split, pieces-more}

-- the pixel of w by h ones that are stored in some bytes
abbrev pub pixel_in : ℕ → List ℕ → ℕ → ℕ → Rgba
pixel_in w bytes x y = read_at Rgba8Pre bytes (4 * (y * w + x))

-- a pixel is read from the bytes that begin with it
pub read_ahead : (bytes : List ℕ) (at : ℕ) → read_at Rgba8Pre bytes at ≡ read_at Rgba8Pre (drop at bytes) 0
read_ahead bytes at =
    λ i. record {
      r = (ap (λ (j : ℕ). get_or bytes j 0) (sym (add-zero at)) ∙ sym (get_or-drop at bytes 0 0)) i;
      g = sym (get_or-drop at bytes 1 0) i;
      b = sym (get_or-drop at bytes 2 0) i;
      a = sym (get_or-drop at bytes 3 0) i;
    }

-- a pixel of a row that was drawn
pub read_drawn : (w : ℕ) (colour : ℕ → Rgba) (x : ℕ) → x < w → read_at Rgba8Pre (drawn_row w Rgba8Pre colour) (4 * x) ≡ colour x
read_drawn w colour x in_row =
    let m : ℕ = w - (x + 1) in
    let f : ℕ → List ℕ = λ j. stored Rgba8Pre (colour j) in
    read_ahead (drawn_row w Rgba8Pre colour) (4 * x)
    ∙ ap (λ (bytes : List ℕ). read_at Rgba8Pre bytes 0) (drop_pieces f (λ j. refl) 0 w x (suc m) (omega arith))
    ∙ ap colour (zero-add x)

-- the bytes of a pixel
pub cell : (row : List ℕ) (at : ℕ) → at + 4 ≤ length row → chunk at 4 row ≡ stored Rgba8Pre (read_at Rgba8Pre row at)
cell row at le =
    let two : at + 1 + 1 ≡ at + 2 = omega arith in
    let three : at + 1 + 1 + 1 ≡ at + 3 = omega arith in
    sym (pick_l-range_with_len 0 row at 4 le) ∙ (λ i. get_or row at 0 ∷ get_or row (at + 1) 0 ∷ get_or row (two i) 0
    ∷ get_or row (three i) 0 ∷ [])

-- the bytes of pixels
pub cells : (row : List ℕ) (from n at : ℕ) → at ≡ 4 * from → at + 4 * n ≤ length row
    → chunk at (4 * n) row ≡ flat_map (λ x. stored Rgba8Pre (read_at Rgba8Pre row (4 * x))) (range_with_len from n)
cells row from zero at at_is le = let none : 4 * 0 ≡ 0 = omega arith in ap (λ (j : ℕ). chunk at j row) none
cells row from (suc n) at at_is le =
    let count : 4 * suc n ≡ 4 + 4 * n = omega arith in
    ap (λ (j : ℕ). chunk at j row) count
    ∙ take-add 4 (4 * n) (drop at row)
    ∙ (λ i. cell row at (omega arith) i ++ take (4 * n) (drop-drop 4 at row i))
    ∙ (λ i. stored Rgba8Pre (read_at Rgba8Pre row (at_is i)) ++ cells row (from + 1) n (at + 4) (omega arith) (omega arith) i)

-- formats of four bytes store a pixel alike, and read it alike
pub stored_four : (format : Format) (color : Rgba) → pixel_bytes format ≡ 4 → stored Rgba8Pre color ≡ stored format color
stored_four Rgba8 color four = refl
stored_four Rgba8Pre color four = refl
stored_four Rgbx8 color four = refl
stored_four A8 color four = absurd (omega (arith, four))

pub read_four : (format : Format) (bytes : List ℕ) (at : ℕ) → pixel_bytes format ≡ 4 → read_at Rgba8Pre bytes at ≡ read_at format bytes at
read_four Rgba8 bytes at four = refl
read_four Rgba8Pre bytes at four = refl
read_four Rgbx8 bytes at four = refl
read_four A8 bytes at four = absurd (omega (arith, four))

-- pieces row by row
pub flat_rows : (f : ℕ → List ℕ) (w h : ℕ)
    → flat_map f (range_with_len 0 (h * w)) ≡ flat_map (λ y. flat_map (λ x. f (y * w + x)) (range_with_len 0 w)) (range_with_len 0 h)
flat_rows f w zero = let none : 0 * w ≡ 0 = omega arith in ap (λ (n : ℕ). flat_map f (range_with_len 0 n)) none
flat_rows f w (suc h) =
    let all : suc h * w ≡ h * w + w = grind arith in
    let row : ℕ → List ℕ = λ y. flat_map (λ x. f (y * w + x)) (range_with_len 0 w) in
    let from : 0 + h * w ≡ h * w + 0 = omega arith in
    let one : suc h ≡ h + 1 = omega arith in
    ap (λ (n : ℕ). flat_map f (range_with_len 0 n)) all
    ∙ pieces_split f 0 (h * w) w
    ∙ (λ i. flat_rows f w h i ++ flat_map f (range_with_len (from i) w))
    ∙ ap (λ (l : List ℕ). flat_map row (range_with_len 0 h) ++ l) (pieces_shift f (h * w) 0 w)
    ∙ sym (pieces-more row 0 h h (omega arith))
    ∙ ap (λ (n : ℕ). flat_map row (range_with_len 0 n)) (sym one)

-- bytes whose pixels have these colours
pub all_drawn : (w h : ℕ) (format : Format) (colour : ℕ → ℕ → Rgba) (bytes : List ℕ) → pixel_bytes format ≡ 4 → length bytes ≡ w * h * 4
    → ((x y : ℕ) → x < w → y < h → pixel_in w bytes x y ≡ colour x y)
    → bytes ≡ flat_map (λ y. drawn_row w format (λ x. colour x y)) (range_with_len 0 h)
all_drawn w h format colour bytes four count pixels =
    let f : ℕ → List ℕ = λ n. stored Rgba8Pre (read_at Rgba8Pre bytes (4 * n)) in
    let all : 4 * (h * w) ≡ length bytes = grind (arith, count) in
    sym (take_all (4 * (h * w)) bytes (omega arith))
    ∙ cells bytes 0 (h * w) 0 refl (omega arith)
    ∙ flat_rows f w h
    ∙ pieces_same (λ y. flat_map (λ x. f (y * w + x)) (range_with_len 0 w)) (λ y. drawn_row w format (λ x. colour x y)) 0 h
    (λ y from below. pieces_same (λ x. f (y * w + x)) (λ x. stored format (colour x y)) 0 w
    (λ x start within. ap (stored Rgba8Pre) (pixels x y (omega arith) (omega arith)) ∙ stored_four format (colour x y) four))

-- the same colours give the same image
pub drawn_same : (size : Size) (format : Format) (f g : ℕ → ℕ → Rgba) → ((x y : ℕ) → x < size.w → y < size.h → f x y ≡ g x y)
    → drawn size format f ≡ drawn size format g
unfolding drawn
drawn_same size format f g same =
    let rows : flat_map (λ y. drawn_row size.w format (λ x. f x y)) (range_with_len 0 size.h)
    ≡ flat_map (λ y. drawn_row size.w format (λ x. g x y)) (range_with_len 0 size.h) =
    pieces_same (λ y. drawn_row size.w format (λ x. f x y)) (λ y. drawn_row size.w format (λ x. g x y)) 0 size.h
    (λ y from below. pieces_same (λ x. stored format (f x y)) (λ x. stored format (g x y)) 0 size.w
    (λ x start within. ap (stored format) (same x y (omega arith) (omega arith)))) in
    λ i. record { size = size; format = format; bytes = rows i }

-- column and row of the n-th pixel
quotient : (w x y : ℕ) → x < w → (y * w + x) / w ≡ y
quotient w x y low = grind arith

rest : (w x y : ℕ) → x < w → (y * w + x) % w ≡ x
rest w x y low = grind arith

-- a pixel of an image that was drawn
pub pixel_drawn : (size : Size) (format : Format) (f : ℕ → ℕ → Rgba) (x y : ℕ) → pixel_bytes format ≡ 4 → x < size.w → y < size.h
    → pixel (drawn size format f) x y ≡ f x y
unfolding drawn
pixel_drawn size format f x y four x_low y_low =
    let w : ℕ = size.w in
    let h : ℕ = size.h in
    let flat : ℕ → Rgba = λ n. f (n % w) (n / w) in
    let n : ℕ = y * w + x in
    let bytes : List ℕ = flat_map (λ y. drawn_row w format (λ x. f x y)) (range_with_len 0 h) in
    let same : bytes ≡ drawn_row (h * w) Rgba8Pre flat =
    pieces_same (λ y. drawn_row w format (λ x. f x y)) (λ y. flat_map (λ x. stored Rgba8Pre (flat (y * w + x))) (range_with_len 0 w)) 0 h
    (λ y from below. pieces_same (λ x. stored format (f x y)) (λ x. stored Rgba8Pre (flat (y * w + x))) 0 w
    (λ x start within. sym (stored_four format (f x y) four)
    ∙ (λ i. stored Rgba8Pre (f (sym (rest w x y (omega arith)) i) (sym (quotient w x y (omega arith)) i)))))
    ∙ sym (flat_rows (λ n. stored Rgba8Pre (flat n)) w h) in
    let last : y * w + w ≤ h * w = grind arith in
    let at : n * pixel_bytes format ≡ 4 * n = ap (λ (k : ℕ). n * k) four ∙ omega arith in
    ap (λ (k : ℕ). read_at format bytes k) at
    ∙ sym (read_four format bytes (4 * n) four)
    ∙ ap (λ (l : List ℕ). read_at Rgba8Pre l (4 * n)) same
    ∙ read_drawn (h * w) flat n (omega arith)
    ∙ (λ i. f (rest w x y x_low i) (quotient w x y x_low i))

-- an image is drawn of its pixels
pub drawn_of : (image : Bitmap) → length image.bytes ≡ image_bytes image.size image.format → pixel_bytes image.format ≡ 4
    → drawn image.size image.format (pixel image) ≡ image
unfolding drawn
drawn_of image whole four =
    let w : ℕ = image.size.w in
    let count : length image.bytes ≡ w * image.size.h * 4 = whole ∙ ap (λ (k : ℕ). w * image.size.h * k) four in
    let bytes = all_drawn w image.size.h image.format (pixel image) image.bytes four count
    (λ x y x_low y_low.
    let at : 4 * (y * w + x) ≡ (y * w + x) * pixel_bytes image.format = omega arith ∙ ap (λ (k : ℕ). (y * w + x) * k) (sym four) in
    ap (λ (k : ℕ). read_at Rgba8Pre image.bytes k) at ∙ read_four image.format image.bytes ((y * w + x) * pixel_bytes image.format) four) in
    λ i. record { size = image.size; format = image.format; bytes = sym bytes i }
