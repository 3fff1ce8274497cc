-- Pixels that are kept for further rows.
use Rattle.std.proofs.Common.{◌≡◌, ℕ, ◌+◌, ◌-◌, ◌*◌, ◌<◌, ◌≤◌, List, ◌++◌, length, get_or, refl, sym, ap, ◌∙◌, arith, true}
use Rattle.std.proofs.Common.{add-zero}
use Rattle.std.specs.Prelude.{◌≢◌, flat_map, Some, if◌then◌else◌}
use Rattle.std.specs.List.{range_with_len}
use Rattle.std.specs.Simd.Lanes.{chunk}
use Rattle.std.proofs.Math.Nat.{mul-le-mul_left}
use Rattle.std.proofs.lemmas.Simd.{get_or-chunk}
use Rattle.std.proofs.lemmas.List.{get_or_default, get_or_append_left}
use Rattle.wf_pixel.specs.declared.Rgba.{Rgba}
use Rattle.wf_pixel.specs.declared.Format.TheVariants.{Rgba8Pre, A8}
use Rattle.wf_image.specs.Bitmap.{Bitmap, pixel, stored, read_at, drawn_row}
use Rattle.wf_kernel.specs.declared.keeping.Tag.{Tag}
use Rattle.wf_kernel.specs.declared.stretch.Stretch.{Stretch}
use Rattle.wf_kernel.specs.Bound.{Bound, IsShowable, bound_texel, layer_at, no_bound}
use Rattle.wf_kernel.specs.Kept.{IsLine, IsBlock}
use Rattle.wf_kernel.specs.Laid.{laid, placed_texel, IsStretch}
use Rattle.wf_kernel.specs.Prepared.{IsTable}
use Rattle.wf_kernel.specs.Placed.{across, down, source_colour, is_crossed}
use Rattle.wf_row.specs.Gather.{AreColumns}
use Rattle.wf_kernel.proofs.Gathered.{pixel_is, crossed_colour}
use Rattle.wf_kernel.proofs.Shown.{texel_is, has_colours}
use Rattle.wf_kernel.proofs.Laid.{laid_same}
use Rattle.wf_kernel.proofs.Pieces.{length-pieces}
use Rattle.wf_kernel.proofs.Pixels.{pieces_same, pieces_shift, cells, read_drawn}

-- a layer that was found by its place
pub layer_is : (layers : List Bound) (i : ℕ) (r : Bound) → i < length layers → r ≡ get_or layers i r → r ≡ layer_at layers i
layer_is layers i r low is = is ∙ get_or_default layers i r no_bound low

-- the texels of a stretch
pub stretch_shown : (b : Bound) (image : Bitmap) (s : Stretch) (part : List ℕ) → IsShowable b → b.source ≡ Some image → IsStretch b s
    → laid s.len (λ i. placed_texel b image (s.across + i) s.down) part ≡ laid s.len (λ i. bound_texel b (s.x + i) s.y) part
stretch_shown b image s part showable source stretch =
    laid_same s.len (λ i. placed_texel b image (s.across + i) s.down) (λ i. bound_texel b (s.x + i) s.y) part
    (λ i low. sym (texel_is b image (s.x + i) s.y (s.across + i) s.down source (has_colours b image showable source)
    (stretch.columns i low) stretch.row))

-- pixels of a row of bytes
pub part_is : (row : List ℕ) (first n at : ℕ) (colour : ℕ → Rgba) → at ≡ 4 * first → at + 4 * n ≤ length row
    → ((i : ℕ) → i < n → read_at Rgba8Pre row (4 * (first + i)) ≡ colour i) → chunk at (4 * n) row ≡ drawn_row n Rgba8Pre colour
part_is row first n at colour at_is room same =
    let kept : ℕ → List ℕ = λ j. stored Rgba8Pre (read_at Rgba8Pre row (4 * j)) in
    cells row first n at at_is room
    ∙ ap (λ (j : ℕ). flat_map kept (range_with_len j n)) (sym (add-zero first))
    ∙ pieces_shift kept first 0 n
    ∙ pieces_same (λ i. kept (first + i)) (λ i. stored Rgba8Pre (colour i)) 0 n
    (λ i start less. ap (stored Rgba8Pre) (same i (omega arith)))

-- a layer shows the same pixels in rows that come from the same coordinate of the source
pub same_colours : (b : Bound) (image : Bitmap) (a d e : ℕ) → down b.turn b.layer d ≡ down b.turn b.layer e
    → source_colour b image a d ≡ source_colour b image a e
same_colours b image a d e same =
    ap (λ (v : ℕ). let p : ℕ × ℕ = if is_crossed b.turn b.layer then (v, across b.turn b.layer a) else (across b.turn b.layer a, v) in
    pixel image p.0 p.1) same

-- a stretch of layer i is among what is kept: its coordinate of the source is one of n
pub record IsPart (tag : Tag) (i : ℕ) (s : Stretch) (other n : ℕ) : Type 0 where
  pub layer : tag.layer ≡ i
  pub first : tag.other ≤ other
  pub last : other < tag.other + n
  pub start : tag.across ≤ s.across
  pub end : s.across + s.len ≤ tag.across + tag.len

-- a part of a line that is kept
pub kept_part : (b : Bound) (image : Bitmap) (tag : Tag) (line : List ℕ) (i : ℕ) (s : Stretch) (other at count : ℕ)
    → IsLine b image tag line → IsPart tag i s other 1 → other ≡ down b.turn b.layer s.down → at ≡ 4 * (s.across - tag.across)
    → count ≡ 4 * s.len → at + count ≤ length line
    → chunk at count line ≡ drawn_row s.len Rgba8Pre (λ j. source_colour b image (s.across + j) s.down)
kept_part b image tag line i s other at count is part other_is at_is count_is room =
    let first = part.first in let last = part.last in let start = part.start in let end = part.end in
    let skip : ℕ = s.across - tag.across in
    ap (λ (k : ℕ). chunk at k line) count_is
    ∙ part_is line skip s.len at (λ j. source_colour b image (s.across + j) s.down) at_is (omega arith)
    (λ j less.
    let to : tag.across + (skip + j) ≡ s.across + j = omega arith in
    is (skip + j) s.down (omega arith) (sym other_is ∙ omega arith) ∙ ap (λ (a : ℕ). source_colour b image a s.down) to)

-- a pixel of some bytes that others follow
read_front : (xs ys : List ℕ) (at : ℕ) → at + 4 ≤ length xs → read_at Rgba8Pre (xs ++ ys) at ≡ read_at Rgba8Pre xs at
read_front xs ys at room =
    λ i. record {
      r = get_or_append_left xs ys 0 at (omega arith) i;
      g = get_or_append_left xs ys 0 (at + 1) (omega arith) i;
      b = get_or_append_left xs ys 0 (at + 2) (omega arith) i;
      a = get_or_append_left xs ys 0 (at + 3) (omega arith) i;
    }

-- a pixel of columns that were gathered
columns_read : (src out rows : List ℕ) (column stride i j : ℕ) → AreColumns src column stride rows out → i < length rows → j < 8
    → read_at Rgba8Pre out (4 * (length rows * j + i)) ≡ read_at Rgba8Pre src (4 * (get_or rows i 0 * stride + (column + j)))
columns_read src out rows column stride i j are low eight =
    let at : ℕ = 4 * (length rows * j + i) in
    let from : ℕ = 4 * (get_or rows i 0 * stride + (column + j)) in
    let byte : (k : ℕ) → k < 4 → get_or out (at + k) 0 ≡ get_or src (from + k) 0 = λ k less.
    let to : 4 * (column + j + get_or rows i 0 * stride) + k ≡ from + k = omega arith in
    are i j low eight k less ∙ ap (λ (n : ℕ). get_or src n 0) to in
    let first : get_or out at 0 ≡ get_or src from 0 =
    ap (λ (n : ℕ). get_or out n 0) (sym (add-zero at)) ∙ byte 0 (omega arith) ∙ ap (λ (n : ℕ). get_or src n 0) (add-zero from) in
    λ k. record { r = first k; g = byte 1 (omega arith) k; b = byte 2 (omega arith) k; a = byte 3 (omega arith) k }

-- a pixel of eight columns lies in them
pub eight_columns : (n i j : ℕ) → i < n → j < 8 → n * j + i < 8 * n
eight_columns n i j low eight =
    let to : n * j ≤ n * 7 = mul-le-mul_left n (omega arith) in
    omega arith

-- eight columns that were gathered
pub block_kept : (b : Bound) (image : Bitmap) (n a first : ℕ) (bytes out rest places : List ℕ) → image.format ≢ A8
    → AreColumns image.bytes first image.size.w places out → bytes ≡ out ++ rest → length places ≡ n → length out ≡ 32 * n
    → ((i : ℕ) → i < n → get_or places i 0 ≡ across b.turn b.layer (a + i))
    → (i j : ℕ) → i < n → j < 8 → read_at Rgba8Pre bytes (4 * (n * j + i)) ≡ pixel image (first + j) (across b.turn b.layer (a + i))
block_kept b image n a first bytes out rest places colours columns bytes_is count len places_are i j low eight =
    let inside = eight_columns n i j low eight in
    ap (λ (l : List ℕ). read_at Rgba8Pre l (4 * (n * j + i))) bytes_is
    ∙ read_front out rest (4 * (n * j + i)) (omega arith)
    ∙ ap (λ (m : ℕ). read_at Rgba8Pre out (4 * (m * j + i))) (sym count)
    ∙ columns_read image.bytes out places first image.size.w i j columns (omega arith) eight
    ∙ ap (λ (y : ℕ). read_at Rgba8Pre image.bytes (4 * (y * image.size.w + (first + j)))) (places_are i low)
    ∙ sym (pixel_is image (first + j) (across b.turn b.layer (a + i)) colours)

-- a part of a column ends in eight columns
pub part_end : (tag : Tag) (i : ℕ) (s : Stretch) (other : ℕ) → IsPart tag i s other 8 → 1 ≤ s.len
    → tag.len * (other - tag.other) + (s.across - tag.across) + s.len ≤ 8 * tag.len
part_end tag i s other part some =
    let first = part.first in let last = part.last in let start = part.start in let end = part.end in
    let inside = eight_columns tag.len (s.across - tag.across + s.len - 1) (other - tag.other) (omega arith) (omega arith) in
    omega arith

-- a part of a column that is kept
pub block_part : (b : Bound) (image : Bitmap) (tag : Tag) (block : List ℕ) (i : ℕ) (s : Stretch) (other at count : ℕ)
    → IsBlock b image tag block → is_crossed b.turn b.layer ≡ true → IsPart tag i s other 8 → other ≡ down b.turn b.layer s.down
    → at ≡ 4 * (tag.len * (other - tag.other) + (s.across - tag.across)) → count ≡ 4 * s.len → at + count ≤ length block
    → chunk at count block ≡ drawn_row s.len Rgba8Pre (λ j. source_colour b image (s.across + j) s.down)
block_part b image tag block i s other at count is crossed part other_is at_is count_is room =
    let first = part.first in let last = part.last in let start = part.start in let end = part.end in
    let skip : ℕ = s.across - tag.across in
    let column : ℕ = other - tag.other in
    let back : tag.other + column ≡ other = omega arith in
    ap (λ (k : ℕ). chunk at k block) count_is
    ∙ part_is block (tag.len * column + skip) s.len at (λ j. source_colour b image (s.across + j) s.down) at_is (omega arith)
    (λ j low.
    let there : tag.len * column + skip + j ≡ tag.len * column + (skip + j) = omega arith in
    let to : tag.across + (skip + j) ≡ s.across + j = omega arith in
    ap (λ (k : ℕ). read_at Rgba8Pre block (4 * k)) there
    ∙ is (skip + j) column (omega arith) (omega arith)
    ∙ (λ t. pixel image ((back ∙ other_is) t) (across b.turn b.layer (to t)))
    ∙ crossed_colour b image (s.across + j) s.down (across b.turn b.layer (s.across + j)) crossed refl)

-- the part of a layer's table at the columns of a stretch
pub places_are : (b : Bound) (table : List ℕ) (s : Stretch) (count : ℕ) → IsTable b.turn b.space b.left b.right b.layer table
    → IsStretch b s → count ≡ s.len → (i : ℕ) → i < s.len → get_or (chunk s.x count table) i 0 ≡ across b.turn b.layer (s.across + i)
places_are b table s count is stretch count_is i low =
    let high = stretch.high in
    get_or-chunk s.x count table i 0 (omega arith) ∙ is.holds (s.x + i) (s.across + i) (stretch.columns i low)

-- a line that was filled
pub line_kept : (b : Bound) (image : Bitmap) (n a d : ℕ) (bytes part rest : List ℕ)
    → part ≡ drawn_row n Rgba8Pre (λ i. source_colour b image (a + i) d) → bytes ≡ part ++ rest
    → (i e : ℕ) → i < n → down b.turn b.layer e ≡ down b.turn b.layer d
    → read_at Rgba8Pre bytes (4 * i) ≡ source_colour b image (a + i) e
line_kept b image n a d bytes part rest part_is bytes_is i e less same =
    let len : length part ≡ 4 * n = ap length part_is
    ∙ length-pieces (λ i. stored Rgba8Pre (source_colour b image (a + i) d)) 4 0 n (λ x. refl) in
    ap (λ (l : List ℕ). read_at Rgba8Pre l (4 * i)) bytes_is
    ∙ read_front part rest (4 * i) (omega arith)
    ∙ ap (λ (l : List ℕ). read_at Rgba8Pre l (4 * i)) part_is
    ∙ read_drawn n (λ i. source_colour b image (a + i) d) i less
    ∙ same_colours b image (a + i) d e (sym same)
