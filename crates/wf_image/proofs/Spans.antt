-- Painted cells and rows.
use Rattle.std.proofs.Common.{◌≡◌, ℕ, zero, suc, ◌+◌, ◌-◌, ◌*◌, ◌<◌, ◌≤◌, false, List, [], ◌++◌, length, get_or, take, drop, refl}
use Rattle.std.proofs.Common.{sym, ap, ◌∙◌, append_assoc, arith, length-append, length-drop}
use Rattle.std.specs.Prelude.{true, flat_map, unwrap_or, Option, Some, None, is_some, ◌&&◌, nat_le, nat_lt}
use Rattle.std.specs.List.{range_with_len}
use Rattle.std.proofs.Math.Seq.{drop-append-add, take-add}
use Rattle.std.proofs.Math.Nat.{add-mul, zero-add, zero-mul, mul-le-mul_right, le_trans, le_refl}
use Rattle.std.proofs.lemmas.Bool.Decides.{nat_tests}
use Rattle.std.proofs.lemmas.List.{append-nil, take_at, drop_at, take_all, drop-drop, nil_from_length, take-append-drop, get_or-take}
use Rattle.std.proofs.lemmas.List.{drop-append-le, drop-take, get_or-drop, length-take-le, take-take}
use Rattle.wf_pixel.specs.declared.Size.{Size}
use Rattle.wf_pixel.specs.declared.Rgba.{Rgba}
use Rattle.wf_pixel.specs.declared.Format.{Format}
use Rattle.wf_pixel.specs.declared.Format.TheVariants.{Rgba8, Rgba8Pre, Rgbx8, A8}
use Rattle.wf_image.specs.declared.paint.Paint.{Paint}
use borrow.Rule.Slice.PartMut.{put_mid}
use Rattle.wf_image.specs.Bitmap.{Bitmap, pixel_bytes, stored, read_at, pixel, drawn_row, drawn}
use Rattle.wf_image.specs.Lending.{with_bytes}
use Rattle.wf_image.specs.Alike.{IsLike}
use Rattle.wf_image.specs.Paints.{named_colour, painted_row, painted_bytes, painted}
use Rattle.wf_image.proofs.Cells.{cells-add, cells_are, length-cells, kept}

-- the colour of a pixel of a row after a paint
abbrev pub chosen : Size → Format → List ℕ → Paint → ℕ → ℕ → Rgba
chosen size format row paint y x = unwrap_or (named_colour paint size x y) (read_at format row (x * pixel_bytes format))

-- n cells of a row after a paint
abbrev pub cells : Size → Format → List ℕ → Paint → ℕ → ℕ → ℕ → List ℕ
cells size format row paint y from n = flat_map (λ x. stored format (chosen size format row paint y x)) (range_with_len from n)

-- the bytes of row y of an image
abbrev pub row_at : Size → Format → List ℕ → ℕ → List ℕ
row_at size format bytes y = take (size.w * pixel_bytes format) (drop (y * (size.w * pixel_bytes format)) bytes)

-- n rows of an image after a paint
abbrev pub rows : Size → Format → List ℕ → Paint → ℕ → ℕ → List ℕ
rows size format bytes paint from n =
    flat_map (λ y. painted_row size format (row_at size format bytes y) paint y) (range_with_len from n)

-- cells outside of the span that a paint names
unnamed : (size : Size) (format : Format) (row : List ℕ) (paint : Paint) (y from n : ℕ)
    → ((x : ℕ) → from ≤ x → x < from + n → is_some (named_colour paint size x y) ≡ false)
    → (from + n) * pixel_bytes format ≤ length row → cells size format row paint y from n
    ≡ take (n * pixel_bytes format) (drop (from * pixel_bytes format) row)
unnamed size format row paint y from n none fits =
    cells_are (λ x. stored format (chosen size format row paint y x)) (λ x. stored format (read_at format row (x * pixel_bytes format)))
    from n
    (λ x low high. ap (stored format) (is_kept (named_colour paint size x y) (read_at format row (x * pixel_bytes format))
    (none x low high)))
    ∙ kept format row from n fits
  where
    is_kept : (o : Option Rgba) (color : Rgba) → is_some o ≡ false → unwrap_or o color ≡ color
    is_kept None color h = refl
    is_kept (Some c) color h = absurd cc

-- a piece behind those that are done takes the place of as many bytes
pub step : (done piece old new first : List ℕ) (n k m : ℕ) → length done ≡ n → m ≡ n + k → old ≡ done ++ drop n first
    → new ≡ take n old ++ piece ++ drop m old → new ≡ (done ++ piece) ++ drop m first
step done piece old new first n k m len sum before after =
    let front : take n old ≡ done = ap (take n) before ∙ take_at done (drop n first) n len in
    let behind : drop m old ≡ drop m first =
    ap (drop m) before ∙ ap (λ (j : ℕ). drop j (done ++ drop n first)) (omega (arith, len, sum)) ∙ drop-append-add done (drop n first) k
    ∙ drop-drop k n first ∙ ap (λ (j : ℕ). drop j first) (sym sum) in
    after ∙ rw (front, behind) refl

-- what a span says of the columns that a paint names
abbrev pub IsSpan : Size → Paint → ℕ → ℕ → ℕ → Type 0
IsSpan size paint y start end = (x : ℕ) → x < size.w → is_some (named_colour paint size x y) ≡ (nat_le start x && nat_lt x end)

left_of : (start end x : ℕ) → x < start → (nat_le start x && nat_lt x end) ≡ false
left_of start end x lt = grind (arith, nat_tests)

right_of : (start end x : ℕ) → end ≤ x → (nat_le start x && nat_lt x end) ≡ false
right_of start end x le = grind (arith, nat_tests)

-- a colour that is named, whatever was there
is_named : (o : Option Rgba) (color other : Rgba) → is_some o ≡ true → unwrap_or o color ≡ unwrap_or o other
is_named None color other some = absurd cc
is_named (Some c) color other some = refl

-- cells in the span of two rows in which a paint names the same colours
named_cells : (size : Size) (format : Format) (row other : List ℕ) (paint : Paint) (y z from n : ℕ)
    → ((x : ℕ) → named_colour paint size x z ≡ named_colour paint size x y)
    → ((x : ℕ) → from ≤ x → x < from + n → is_some (named_colour paint size x y) ≡ true)
    → cells size format other paint z from n ≡ cells size format row paint y from n
named_cells size format row other paint y z from n same some =
    cells_are (λ x. stored format (chosen size format other paint z x)) (λ x. stored format (chosen size format row paint y x)) from n
    (λ x low high. ap (λ (o : Option Rgba). stored format (unwrap_or o (read_at format other (x * pixel_bytes format)))) (same x)
    ∙ ap (stored format) (is_named (named_colour paint size x y) (read_at format other (x * pixel_bytes format))
    (read_at format row (x * pixel_bytes format)) (some x low high)))

-- a part of a painted row
part_of_row : (size : Size) (format : Format) (row : List ℕ) (paint : Paint) (y start end : ℕ) → start ≤ end → end ≤ size.w
    → take ((end - start) * pixel_bytes format) (drop (start * pixel_bytes format) (painted_row size format row paint y))
    ≡ cells size format row paint y start (end - start)
part_of_row size format row paint y start end order within =
    let size_of = pixel_bytes format in
    let n : ℕ = end - start in
    let rest : ℕ = size.w - end in
    let all : start + (n + rest) ≡ size.w = omega arith in
    let before : List ℕ = cells size format row paint y 0 start in
    let here : List ℕ = cells size format row paint y start n in
    let behind : List ℕ = cells size format row paint y (start + n) rest in
    let parts : painted_row size format row paint y ≡ before ++ (here ++ behind) =
    ap (cells size format row paint y 0) (sym all)
    ∙ cells-add (λ x. stored format (chosen size format row paint y x)) 0 start (n + rest)
    ∙ ap (λ (k : ℕ). before ++ cells size format row paint y k (n + rest)) (zero-add start)
    ∙ ap (λ (bytes : List ℕ). before ++ bytes) (cells-add (λ x. stored format (chosen size format row paint y x)) start n rest) in
    ap (λ (bytes : List ℕ). take (n * size_of) (drop (start * size_of) bytes)) parts
    ∙ ap (take (n * size_of))
    (drop_at before (here ++ behind) (start * size_of) (length-cells format (chosen size format row paint y) 0 start))
    ∙ take_at here behind (n * size_of) (length-cells format (chosen size format row paint y) start n)

in_span : (start end x : ℕ) → start ≤ x → x < end → (nat_le start x && nat_lt x end) ≡ true
in_span start end x low high = grind (arith, nat_tests)

module _ (size : Size) (format : Format) (row : List ℕ) (paint : Paint) (y : ℕ) (count : length row ≡ size.w * pixel_bytes format) where
  -- before the span nothing changes
  pub starts : (start end : ℕ) → start ≤ end → end ≤ size.w → IsSpan size paint y start end
      → row ≡ cells size format row paint y 0 start ++ drop (start * pixel_bytes format) row
  starts start end order within span =
      let first : cells size format row paint y 0 start ≡ take (start * pixel_bytes format) row =
      unnamed size format row paint y 0 start (λ x low high. span x (omega arith) ∙ left_of start end x (omega arith))
      (omega (arith, mul-le-mul_right (pixel_bytes format) (le_trans order within)))
      ∙ ap (λ (k : ℕ). take (start * pixel_bytes format) (drop k row)) (zero-mul (pixel_bytes format)) in
      rw first (sym (take-append-drop (start * pixel_bytes format) row))

  -- one more pixel
  pub goes_on : (x : ℕ) (color : Rgba) (old new : List ℕ) → named_colour paint size x y ≡ Some color
      → old ≡ cells size format row paint y 0 x ++ drop (x * pixel_bytes format) row
      → new ≡ take (x * pixel_bytes format) old ++ stored format color ++ drop ((x + 1) * pixel_bytes format) old
      → new ≡ cells size format row paint y 0 (x + 1) ++ drop ((x + 1) * pixel_bytes format) row
  goes_on x color old new named before after =
      let size_of = pixel_bytes format in
      let done = cells size format row paint y 0 x in
      let one_more : cells size format row paint y 0 (x + 1) ≡ done ++ stored format color =
      cells-add (λ x. stored format (chosen size format row paint y x)) 0 x 1
      ∙ ap (λ (cell : List ℕ). done ++ cell) (append-nil (stored format (chosen size format row paint y (0 + x))))
      ∙ ap (λ (k : ℕ). done ++ stored format (chosen size format row paint y k)) (zero-add x)
      ∙ ap (λ (o : Option Rgba). done ++ stored format (unwrap_or o (read_at format row (x * size_of)))) named in
      step done (stored format color) old new row (x * size_of) size_of ((x + 1) * size_of)
      (length-cells format (chosen size format row paint y) 0 x) (omega arith) before after
      ∙ ap (λ (bytes : List ℕ). bytes ++ drop ((x + 1) * size_of) row) (sym one_more)

  -- behind the span nothing changes
  pub is_painted : (start end : ℕ) (old : List ℕ) → end ≤ size.w → IsSpan size paint y start end
      → old ≡ cells size format row paint y 0 end ++ drop (end * pixel_bytes format) row → old ≡ painted_row size format row paint y
  is_painted start end old within span before =
      let size_of = pixel_bytes format in
      let rest : ℕ = size.w - end in
      let all : end + rest ≡ size.w = omega arith in
      let last : cells size format row paint y end rest ≡ drop (end * size_of) row =
      unnamed size format row paint y end rest (λ x low high. span x (omega arith) ∙ right_of start end x low)
      (rw (all, count) (le_refl (size.w * size_of)))
      ∙ take_all (rest * size_of) (drop (end * size_of) row)
      (omega (arith, length-drop (end * size_of) row, count, ap (λ (k : ℕ). k * size_of) all)) in
      before ∙ ap (λ (bytes : List ℕ). cells size format row paint y 0 end ++ bytes) (sym last)
      ∙ ap (λ (k : ℕ). cells size format row paint y 0 end ++ cells size format row paint y k rest) (sym (zero-add end))
      ∙ sym (cells-add (λ x. stored format (chosen size format row paint y x)) 0 end rest)
      ∙ ap (cells size format row paint y 0) all

  -- the span of a row that is painted already, in which the paint names the same colours
  pub is_painted_alike : (start end : ℕ) (bytes : List ℕ) → start ≤ end → end ≤ size.w → IsSpan size paint y start end
      → IsLike size format paint y bytes
      → take (start * pixel_bytes format) row ++ take ((end - start) * pixel_bytes format) (drop (start * pixel_bytes format) bytes)
      ++ drop (end * pixel_bytes format) row ≡ painted_row size format row paint y
  is_painted_alike start end bytes order within span like =
      let size_of = pixel_bytes format in
      let n : ℕ = end - start in
      let other : List ℕ = like.0 in
      let z : ℕ = like.1 in
      let done : List ℕ = cells size format row paint y 0 start in
      let here : List ℕ = cells size format row paint y start n in
      let last : List ℕ = drop (end * size_of) row in
      let all : start + n ≡ end = omega arith in
      let front : take (start * size_of) row ≡ done =
      ap (take (start * size_of)) (starts start end order within span)
      ∙ take_at done (drop (start * size_of) row) (start * size_of) (length-cells format (chosen size format row paint y) 0 start) in
      let piece : take (n * size_of) (drop (start * size_of) bytes) ≡ here =
      ap (λ (l : List ℕ). take (n * size_of) (drop (start * size_of) l)) like.3
      ∙ part_of_row size format other paint z start end order within
      ∙ named_cells size format row other paint y z start n like.2
      (λ x low high. span x (omega arith) ∙ in_span start end x low (omega arith)) in
      let both : done ++ here ≡ cells size format row paint y 0 end =
      ap (λ (k : ℕ). done ++ cells size format row paint y k n) (sym (zero-add start))
      ∙ sym (cells-add (λ x. stored format (chosen size format row paint y x)) 0 start n)
      ∙ ap (cells size format row paint y 0) all in
      is_painted start end (take (start * size_of) row ++ take (n * size_of) (drop (start * size_of) bytes) ++ last) within span
      (ap (λ (l : List ℕ). l ++ take (n * size_of) (drop (start * size_of) bytes) ++ last) front
      ∙ ap (λ (l : List ℕ). done ++ l ++ last) piece ∙ ap (λ (l : List ℕ). l ++ last) both)

-- a byte of a part of the bytes
get_part : (bytes : List ℕ) (from count i at : ℕ) → i < count → at ≡ from + i
    → get_or (take count (drop from bytes)) i 0 ≡ get_or bytes at 0
get_part bytes from count i at within e = get_or-take count (drop from bytes) i 0 within ∙ get_or-drop from bytes i 0
    ∙ ap (λ (k : ℕ). get_or bytes k 0) (sym e)

-- four bytes of a part of the bytes, as a pixel
four_of_part : (bytes : List ℕ) (from count i at : ℕ) → i + 4 ≤ count → at ≡ from + i
    → read_at Rgba8 (take count (drop from bytes)) i ≡ read_at Rgba8 bytes at
four_of_part bytes from count i at within e =
    rw (
      get_part bytes from count i at (omega arith) e,
      get_part bytes from count (i + 1) (at + 1) (omega arith) (omega arith),
      get_part bytes from count (i + 2) (at + 2) (omega arith) (omega arith),
      get_part bytes from count (i + 3) (at + 3) (omega arith) (omega arith),
    ) refl

-- a pixel of a row is that of the image
pixel_of_row : (size : Size) (format : Format) (bytes : List ℕ) (x y : ℕ) → x < size.w
    → read_at format (row_at size format bytes y) (x * pixel_bytes format)
    ≡ pixel (record { size = size; format = format; bytes = bytes }) x y
pixel_of_row size Rgba8 bytes x y within = four_of_part bytes (y * (size.w * 4)) (size.w * 4) (x * 4) ((y * size.w + x) * 4) (omega arith)
    (omega arith)
pixel_of_row size Rgba8Pre bytes x y within = four_of_part bytes (y * (size.w * 4)) (size.w * 4) (x * 4) ((y * size.w + x) * 4)
    (omega arith) (omega arith)
pixel_of_row size Rgbx8 bytes x y within = four_of_part bytes (y * (size.w * 4)) (size.w * 4) (x * 4) ((y * size.w + x) * 4) (omega arith)
    (omega arith)
pixel_of_row size A8 bytes x y within = ap (λ (n : ℕ). record { r = 0; g = 0; b = 0; a = n })
    (get_part bytes (y * (size.w * 1)) (size.w * 1) (x * 1) ((y * size.w + x) * 1) (omega arith) (omega arith))

module _ (size : Size) (format : Format) (bytes : List ℕ) (paint : Paint) where
  length-rows : (from n : ℕ) → length (rows size format bytes paint from n) ≡ n * (size.w * pixel_bytes format)
  length-rows from zero = sym (zero-mul (size.w * pixel_bytes format))
  length-rows from (suc n) =
      let row = row_at size format bytes from in
      omega (
        arith,
        length-append (painted_row size format row paint from) (rows size format bytes paint (from + 1) n),
        length-cells format (chosen size format row paint from) 0 size.w,
        length-rows (from + 1) n,
      )

  -- one more row
  pub goes_on_rows : (y : ℕ) (old new : List ℕ) → let stride : ℕ = size.w * pixel_bytes format in
      old ≡ rows size format bytes paint 0 y ++ drop (y * stride) bytes
      → new ≡ take (y * stride) old ++ painted_row size format (take stride (drop (y * stride) old)) paint y
      ++ drop (y * stride + stride) old
      → new ≡ rows size format bytes paint 0 (y + 1) ++ drop ((y + 1) * stride) bytes
  goes_on_rows y old new before after =
      let stride : ℕ = size.w * pixel_bytes format in
      let n : ℕ = y * stride in
      let done = rows size format bytes paint 0 y in
      let piece = painted_row size format (row_at size format bytes y) paint y in
      let len = length-rows 0 y in
      let untouched : drop n old ≡ drop n bytes = ap (drop n) before ∙ drop_at done (drop n bytes) n len in
      let one_more : rows size format bytes paint 0 (y + 1) ≡ done ++ piece =
      cells-add (λ y. painted_row size format (row_at size format bytes y) paint y) 0 y 1
      ∙ ap (λ (row : List ℕ). done ++ row) (append-nil (painted_row size format (row_at size format bytes (0 + y)) paint (0 + y)))
      ∙ ap (λ (k : ℕ). done ++ painted_row size format (row_at size format bytes k) paint k) (zero-add y) in
      step done piece old new bytes n stride (n + stride) len refl before
      (after ∙ ap (λ (rest : List ℕ). take n old ++ painted_row size format (take stride rest) paint y ++ drop (n + stride) old) untouched)
      ∙ ap (λ (front : List ℕ). front ++ drop (n + stride) bytes) (sym one_more)
      ∙ ap (λ (k : ℕ). rows size format bytes paint 0 (y + 1) ++ drop k bytes) (omega arith)

  -- a row above those that are still to be painted
  pub row_above : (z y : ℕ) (old : List ℕ) → let stride : ℕ = size.w * pixel_bytes format in z < y
      → old ≡ rows size format bytes paint 0 y ++ drop (y * stride) bytes
      → take stride (drop (z * stride) old) ≡ painted_row size format (row_at size format bytes z) paint z
  row_above z y old lt before =
      let stride : ℕ = size.w * pixel_bytes format in
      let m : ℕ = y - (z + 1) in
      let all : z + suc m ≡ y = omega arith in
      let above : List ℕ = rows size format bytes paint 0 z in
      let here : List ℕ = painted_row size format (row_at size format bytes z) paint z in
      let later : List ℕ = rows size format bytes paint (z + 1) m in
      let rest : List ℕ = drop (y * stride) bytes in
      let parts : rows size format bytes paint 0 y ≡ above ++ (here ++ later) =
      ap (rows size format bytes paint 0) (sym all)
      ∙ cells-add (λ y. painted_row size format (row_at size format bytes y) paint y) 0 z (suc m)
      ∙ ap (λ (k : ℕ). above ++ rows size format bytes paint k (suc m)) (zero-add z) in
      ap (λ (l : List ℕ). take stride (drop (z * stride) l))
      (before ∙ ap (λ (l : List ℕ). l ++ rest) parts ∙ append_assoc above (here ++ later) rest)
      ∙ ap (take stride) (drop_at above ((here ++ later) ++ rest) (z * stride) (length-rows 0 z) ∙ append_assoc here later rest)
      ∙ take_at here (later ++ rest) stride (length-cells format (chosen size format (row_at size format bytes z) paint z) 0 size.w)

  -- the rows of the image after the paint
  pub are_painted : (old : List ℕ) → length bytes ≡ size.h * (size.w * pixel_bytes format)
      → old ≡ rows size format bytes paint 0 size.h ++ drop (size.h * (size.w * pixel_bytes format)) bytes
      → old ≡ painted_bytes size format bytes paint
  unfolding drawn
  are_painted old count before =
      let stride : ℕ = size.w * pixel_bytes format in
      let behind : drop (size.h * stride) bytes ≡ [] = nil_from_length (drop (size.h * stride) bytes)
      (omega (arith, length-drop (size.h * stride) bytes, count)) in
      before ∙ ap (λ (rest : List ℕ). rows size format bytes paint 0 size.h ++ rest) behind
      ∙ append-nil (rows size format bytes paint 0 size.h)
      ∙ cells_are (λ y. painted_row size format (row_at size format bytes y) paint y)
      (λ y. drawn_row size.w format (λ x. unwrap_or (named_colour paint size x y)
      (pixel (record { size = size; format = format; bytes = bytes }) x y))) 0 size.h
      (λ y low high. cells_are (λ x. stored format (chosen size format (row_at size format bytes y) paint y x))
      (λ x. stored format (unwrap_or (named_colour paint size x y)
      (pixel (record { size = size; format = format; bytes = bytes }) x y))) 0 size.w
      (λ x left right. ap (λ (color : Rgba). stored format (unwrap_or (named_colour paint size x y) color))
      (pixel_of_row size format bytes x y (omega arith))))

-- a row that is painted in its place
pub row_in_place : (size : Size) (format : Format) (bytes row : List ℕ) (paint : Paint) (y start n : ℕ) → n ≡ size.w * pixel_bytes format
    → row ≡ painted_row size format (take n (drop start bytes)) paint y
    → put_mid start n bytes row ≡ take start bytes ++ painted_row size format (take (size.w * pixel_bytes format) (drop start bytes)) paint
    y ++ drop (start + size.w * pixel_bytes format) bytes
row_in_place size format bytes row paint y start n same now =
    let stride : ℕ = size.w * pixel_bytes format in
    let after : List ℕ = painted_row size format (take stride (drop start bytes)) paint y in
    ap (λ (ys : List ℕ). put_mid start n bytes ys) now
    ∙ ap (λ (k : ℕ). put_mid start k bytes (painted_row size format (take k (drop start bytes)) paint y)) same
    ∙ ap (λ (rest : List ℕ). take start bytes ++ (after ++ rest)) (drop-drop stride start bytes)
    ∙ sym (append_assoc (take start bytes) after (drop (start + stride) bytes))

-- an image whose bytes are painted
pub image_is_painted : (image : Bitmap) (paint : Paint) (new : List ℕ) → length new ≡ length image.bytes
    → new ≡ painted_bytes image.size image.format image.bytes paint → with_bytes image new ≡ painted image paint
unfolding drawn
image_is_painted image paint new same are =
    ap (λ (bytes : List ℕ). record image { bytes = bytes }) (take_at new (drop (length new) image.bytes) (length image.bytes) same ∙ are)

-- a part of a row that is copied from the same part of another row
part_in_place : (old : List ℕ) (from to first len stride : ℕ) → first + len ≤ stride → to + stride ≤ length old → from + stride ≤ to
    → let row : List ℕ = take stride (drop to old) in
    take (to + first) old ++ take len (drop (from + first) old) ++ drop (to + first + len) old
    ≡ take to old ++ (take first row ++ take len (drop first (take stride (drop from old))) ++ drop (first + len) row)
    ++ drop (to + stride) old
part_in_place old from to first len stride part within order =
    let behind : List ℕ = drop to old in
    let row : List ℕ = take stride behind in
    let rest : List ℕ = drop (to + stride) old in
    let more : ℕ = stride - first - len in
    let sum : first + (len + more) ≡ stride = omega arith in
    let all : length row ≡ stride = length-take-le stride behind (omega (arith, length-drop to old)) in
    let front : take (to + first) old ≡ take to old ++ take first row =
    take-add to first old ∙ ap (λ (l : List ℕ). take to old ++ l) (sym (take-take first stride behind (omega arith))) in
    let piece : take len (drop (from + first) old) ≡ take len (drop first (take stride (drop from old))) =
    sym (ap (λ (k : ℕ). take len (drop first (take k (drop from old)))) (sym sum)
    ∙ ap (take len) (drop-take first (len + more) (drop from old))
    ∙ take-take len (len + more) (drop first (drop from old)) (omega arith)
    ∙ ap (take len) (drop-drop first from old)) in
    let last : drop (to + first + len) old ≡ drop (first + len) row ++ rest =
    ap (λ (k : ℕ). drop k old) (omega arith) ∙ sym (drop-drop (first + len) to old)
    ∙ ap (drop (first + len)) (sym (take-append-drop stride behind))
    ∙ drop-append-le (first + len) row (drop stride behind) (omega (arith, all))
    ∙ ap (λ (l : List ℕ). drop (first + len) row ++ l) (drop-drop stride to old) in
    let kept : List ℕ = take first row in
    let copied : List ℕ = take len (drop first (take stride (drop from old))) in
    let after : List ℕ = drop (first + len) row in
    let before : List ℕ = take to old in
    rw (front, piece, last) (sym (append_assoc (before ++ kept ++ copied) after rest)
    ∙ ap (λ (l : List ℕ). l ++ rest) (ap (λ (l : List ℕ). l ++ after) (append_assoc before kept copied)
    ∙ append_assoc before (kept ++ copied) after))

-- a row that is painted by the bytes of one above it
pub row_alike : (size : Size) (format : Format) (old : List ℕ) (paint : Paint) (y from to start end : ℕ)
    → let stride : ℕ = size.w * pixel_bytes format in
    from + stride ≤ to → to + stride ≤ length old → start ≤ end → end ≤ size.w → IsSpan size paint y start end
    → IsLike size format paint y (take stride (drop from old))
    → let first : ℕ = start * pixel_bytes format in let len : ℕ = (end - start) * pixel_bytes format in
    take (to + first) old ++ take len (drop (from + first) old) ++ drop (to + first + len) old
    ≡ take to old ++ painted_row size format (take stride (drop to old)) paint y ++ drop (to + stride) old
row_alike size format old paint y from to start end order within upward inside span like =
    let size_of = pixel_bytes format in
    let stride : ℕ = size.w * size_of in
    let row : List ℕ = take stride (drop to old) in
    let first : ℕ = start * size_of in
    let len : ℕ = (end - start) * size_of in
    let sum : first + len ≡ end * size_of = sym (add-mul start (end - start) size_of) ∙ ap (λ (k : ℕ). k * size_of) (omega arith) in
    part_in_place old from to first len stride (rw sum (mul-le-mul_right size_of inside)) within order
    ∙ ap (λ (k : ℕ). take to old ++ (take first row ++ take len (drop first (take stride (drop from old))) ++ drop k row)
    ++ drop (to + stride) old) sum
    ∙ ap (λ (l : List ℕ). take to old ++ l ++ drop (to + stride) old)
    (is_painted_alike size format row paint y (length-take-le stride (drop to old) (omega (arith, length-drop to old))) start end
    (take stride (drop from old)) upward inside span like)
