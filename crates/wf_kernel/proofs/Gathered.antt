-- The pixels of a layer's source, one after the other.
use Rattle.std.proofs.Common.{◌≡◌, ℕ, ◌+◌, ◌-◌, ◌*◌, ◌<◌, ◌≤◌, List, length, get_or, Bool, true, false, refl, sym, ap, subst, ◌∙◌, arith}
use Rattle.std.proofs.Common.{add-zero, zero-add}
use Rattle.std.specs.Prelude.{◌≢◌, Some, flat_map, if◌then◌else◌}
use Rattle.std.specs.List.{range_with_len}
use Rattle.std.specs.Simd.Lanes.{chunk}
use Rattle.std.proofs.Math.Nat.{mul-le-mul_right}
use Rattle.wf_pixel.specs.declared.Rgba.{Rgba}
use Rattle.wf_pixel.specs.declared.Format.{Format}
use Rattle.wf_pixel.specs.declared.Format.TheVariants.{Rgba8, Rgba8Pre, Rgbx8, A8}
use Rattle.wf_image.specs.Bitmap.{Bitmap, pixel, pixel_bytes, image_bytes, stored, read_at, drawn_row}
use Rattle.wf_row.specs.Gather.{gathered_row, gathered_column, reversed}
use Rattle.wf_kernel.specs.declared.stretch.Stretch.{Stretch}
use Rattle.wf_kernel.specs.Bound.{Bound, IsShowable}
use Rattle.wf_kernel.specs.Laid.{IsStretch}
use Rattle.wf_kernel.specs.Placed.{placed, is_crossed, across, down, source_place, source_colour}
use Rattle.wf_kernel.proofs.Shown.{place_low}
use Rattle.wf_kernel.proofs.Pieces.{length-pieces}
use Rattle.wf_kernel.proofs.Pixels.{pieces_same, pieces_shift, cell, cells, read_drawn, reversed_drawn, gathered_drawn}

-- ---- pixels as they stand
read_is : (format : Format) (bytes : List ℕ) (i : ℕ) → format ≢ A8
    → read_at format bytes (i * (pixel_bytes format)) ≡ read_at Rgba8Pre bytes (4 * i)
read_is Rgba8 bytes i n = let turned : i * 4 ≡ 4 * i = omega arith in ap (read_at Rgba8Pre bytes) turned
read_is Rgba8Pre bytes i n = let turned : i * 4 ≡ 4 * i = omega arith in ap (read_at Rgba8Pre bytes) turned
read_is Rgbx8 bytes i n = let turned : i * 4 ≡ 4 * i = omega arith in ap (read_at Rgba8Pre bytes) turned
read_is A8 bytes i n = absurd (n refl)

pub pixel_is : (image : Bitmap) (x y : ℕ) → image.format ≢ A8 → pixel image x y ≡ read_at Rgba8Pre image.bytes (4 * (y * image.size.w + x))
pixel_is image x y colours = read_is image.format image.bytes (y * image.size.w + x) colours

pub four_bytes : (format : Format) → format ≢ A8 → pixel_bytes format ≡ 4
four_bytes Rgba8 n = refl
four_bytes Rgba8Pre n = refl
four_bytes Rgbx8 n = refl
four_bytes A8 n = absurd (n refl)

pub room_for : (image : Bitmap) (x y n : ℕ) → image.format ≢ A8 → length image.bytes ≡ image_bytes image.size image.format
    → x + n ≤ image.size.w → y < image.size.h
    → 4 * (y * image.size.w + x) + 4 * n ≤ length image.bytes
room_for image x y n colours count_is within low =
    let four = four_bytes image.format colours in
    let all : length image.bytes ≡ image.size.w * image.size.h * 4 = count_is ∙ ap (λ (k : ℕ). image.size.w * image.size.h * k) four in
    let rows : (y + 1) * image.size.w ≤ image.size.h * image.size.w = mul-le-mul_right image.size.w (omega arith) in
    let one : (y + 1) * image.size.w ≡ y * image.size.w + image.size.w = grind arith in
    let turned : image.size.h * image.size.w ≡ image.size.w * image.size.h = grind arith in
    omega arith

-- a pixel lies in the bytes
pub place_in : (image : Bitmap) (x y : ℕ) → image.format ≢ A8 → length image.bytes ≡ image_bytes image.size image.format → x < image.size.w
    → y < image.size.h
    → 4 * (y * image.size.w + x) + 4 ≤ length image.bytes
place_in image x y colours count_is low high = let all = room_for image x y 1 colours count_is (omega arith) high in omega arith

-- a part of a row of an image
pub part_drawn : (image : Bitmap) (x y n at count : ℕ) → image.format ≢ A8 → length image.bytes ≡ image_bytes image.size image.format
    → x + n ≤ image.size.w → y < image.size.h
    → at ≡ 4 * (y * image.size.w + x) → count ≡ 4 * n → chunk at count image.bytes ≡ drawn_row n Rgba8Pre (λ i. pixel image (x + i) y)
part_drawn image x y n at count colours bytes within low at_is count_is =
    let w : ℕ = image.size.w in
    let first : ℕ = y * w + x in
    let kept : ℕ → List ℕ = λ j. stored Rgba8Pre (read_at Rgba8Pre image.bytes (4 * j)) in
    let room : 4 * first + 4 * n ≤ length image.bytes = room_for image x y n colours bytes within low in
    ap (λ (k : ℕ). chunk at k image.bytes) count_is
    ∙ cells image.bytes first n at at_is (omega arith)
    ∙ ap (λ (j : ℕ). flat_map kept (range_with_len j n)) (sym (add-zero first))
    ∙ pieces_shift kept first 0 n
    ∙ pieces_same (λ i. kept (first + i)) (λ i. stored Rgba8Pre (pixel image (x + i) y)) 0 n
    (λ i start less.
    let place : first + i ≡ y * w + (x + i) = omega arith in
    ap kept place ∙ ap (stored Rgba8Pre) (sym (pixel_is image (x + i) y colours)))

-- ---- as the layer shows them
straight_colour : (b : Bound) (image : Bitmap) (a d u v : ℕ) → is_crossed b.turn b.layer ≡ false → across b.turn b.layer a ≡ u
    → v ≡ down b.turn b.layer d → pixel image u v ≡ source_colour b image a d
straight_colour b image a d u v straight column row =
    let place : source_place b a d ≡ (across b.turn b.layer a, down b.turn b.layer d) =
    ap (λ (c : Bool). if c then (down b.turn b.layer d, across b.turn b.layer a) else (across b.turn b.layer a, down b.turn b.layer d))
    straight in
    (λ i. pixel image (sym column i) (row i)) ∙ ap (λ (p : ℕ × ℕ). pixel image p.0 p.1) (sym place)

pub crossed_colour : (b : Bound) (image : Bitmap) (a d v : ℕ) → is_crossed b.turn b.layer ≡ true → across b.turn b.layer a ≡ v
    → pixel image (down b.turn b.layer d) v ≡ source_colour b image a d
crossed_colour b image a d v crossed row =
    let v_is : pixel image (down b.turn b.layer d) v ≡ pixel image (down b.turn b.layer d) (across b.turn b.layer a) =
    ap (λ (y : ℕ). pixel image (down b.turn b.layer d) y) (sym row) in
    let place : source_place b a d ≡ (down b.turn b.layer d, across b.turn b.layer a) =
    ap (λ (c : Bool). if c then (down b.turn b.layer d, across b.turn b.layer a) else (across b.turn b.layer a, down b.turn b.layer d))
    crossed in
    v_is ∙ ap (λ (p : ℕ × ℕ). pixel image p.0 p.1) (sym place)

abbrev Within : Bitmap → ℕ × ℕ → Type 0
Within image p = (p.0 < image.size.w) × (p.1 < image.size.h)

pub straight_low : (b : Bound) (image : Bitmap) (a d : ℕ) → IsShowable b → b.source ≡ Some image → a < (placed b).w → d < (placed b).h
    → is_crossed b.turn b.layer ≡ false
    → (across b.turn b.layer a < image.size.w) × (down b.turn b.layer d < image.size.h)
straight_low b image a d showable source low high straight =
    let u : ℕ = across b.turn b.layer a in
    let v : ℕ = down b.turn b.layer d in
    subst (λ (c : Bool). Within image (if c then (v, u) else (u, v))) straight (place_low b image a d showable source low high)

pub crossed_low : (b : Bound) (image : Bitmap) (a d : ℕ) → IsShowable b → b.source ≡ Some image → a < (placed b).w → d < (placed b).h
    → is_crossed b.turn b.layer ≡ true
    → (down b.turn b.layer d < image.size.w) × (across b.turn b.layer a < image.size.h)
crossed_low b image a d showable source low high crossed =
    let v : ℕ = across b.turn b.layer a in
    let u : ℕ = down b.turn b.layer d in
    subst (λ (c : Bool). Within image (if c then (u, v) else (v, u))) crossed (place_low b image a d showable source low high)

-- the pixels of a row, or of a column, that a stretch shows lie in the source
pub in_row : (b : Bound) (image : Bitmap) (s : Stretch) (i : ℕ) → IsShowable b → b.source ≡ Some image → IsStretch b s
    → is_crossed b.turn b.layer ≡ false → i < s.len
    → (across b.turn b.layer (s.across + i) < image.size.w) × (down b.turn b.layer s.down < image.size.h)
in_row b image s i showable source stretch straight low =
    let inside = stretch.inside in straight_low b image (s.across + i) s.down showable source (omega arith) stretch.below straight

pub in_column : (b : Bound) (image : Bitmap) (s : Stretch) (i : ℕ) → IsShowable b → b.source ≡ Some image → IsStretch b s
    → is_crossed b.turn b.layer ≡ true → i < s.len
    → (down b.turn b.layer s.down < image.size.w) × (across b.turn b.layer (s.across + i) < image.size.h)
in_column b image s i showable source stretch crossed low =
    let inside = stretch.inside in crossed_low b image (s.across + i) s.down showable source (omega arith) stretch.below crossed

-- a row of the source that is shown as a row lies in the source
pub row_low : (b : Bound) (image : Bitmap) (s : Stretch) (v : ℕ) → IsShowable b → b.source ≡ Some image → IsStretch b s
    → is_crossed b.turn b.layer ≡ false → v ≡ down b.turn b.layer s.down → v < image.size.h
row_low b image s v showable source stretch straight row =
    omega (arith, (in_row b image s 0 showable source stretch straight stretch.some).1)

-- a part of such a row from the left to the right
pub forward_shown : (b : Bound) (image : Bitmap) (a d n first v : ℕ) → is_crossed b.turn b.layer ≡ false → v ≡ down b.turn b.layer d
    → ((i : ℕ) → i < n → across b.turn b.layer (a + i) ≡ first + i)
    → drawn_row n Rgba8Pre (λ i. pixel image (first + i) v) ≡ drawn_row n Rgba8Pre (λ i. source_colour b image (a + i) d)
forward_shown b image a d n first v straight row column =
    pieces_same (λ i. stored Rgba8Pre (pixel image (first + i) v)) (λ i. stored Rgba8Pre (source_colour b image (a + i) d)) 0 n
    (λ i start less. ap (stored Rgba8Pre) (straight_colour b image (a + i) d (first + i) v straight (column i (omega arith)) row))

-- and from the right to the left
pub backward_shown : (b : Bound) (image : Bitmap) (a d n first v : ℕ) → is_crossed b.turn b.layer ≡ false → v ≡ down b.turn b.layer d
    → ((i : ℕ) → i < n → across b.turn b.layer (a + i) ≡ first + (n - 1 - i))
    → reversed (drawn_row n Rgba8Pre (λ i. pixel image (first + i) v)) ≡ drawn_row n Rgba8Pre (λ i. source_colour b image (a + i) d)
backward_shown b image a d n first v straight row column =
    reversed_drawn n (λ i. pixel image (first + i) v)
    ∙ pieces_same (λ i. stored Rgba8Pre (pixel image (first + (n - 1 - i)) v))
    (λ i. stored Rgba8Pre (source_colour b image (a + i) d)) 0 n
    (λ i start less. ap (stored Rgba8Pre)
    (straight_colour b image (a + i) d (first + (n - 1 - i)) v straight (column i (omega arith)) row))

-- chosen columns of a row
pub row_shown : (b : Bound) (image : Bitmap) (a d n w v : ℕ) (src places : List ℕ) → is_crossed b.turn b.layer ≡ false
    → v ≡ down b.turn b.layer d → length places ≡ n → src ≡ drawn_row w Rgba8Pre (λ i. pixel image (0 + i) v)
    → ((i : ℕ) → i < n → get_or places i 0 ≡ across b.turn b.layer (a + i)) → ((i : ℕ) → i < n → across b.turn b.layer (a + i) < w)
    → gathered_row src places ≡ drawn_row n Rgba8Pre (λ i. source_colour b image (a + i) d)
row_shown b image a d n w v src places straight v_is count src_is places_are low =
    let row : ℕ → Rgba = λ i. pixel image (0 + i) v in
    let len : length src ≡ 4 * w = ap length src_is ∙ length-pieces (λ i. stored Rgba8Pre (row i)) 4 0 w (λ i. refl) in
    gathered_drawn (λ c. chunk (4 * c) 4 src) places n (λ i. source_colour b image (a + i) d) count
    (λ i less.
    let c : ℕ = across b.turn b.layer (a + i) in
    let in_row : c < w = low i less in
    ap (λ (j : ℕ). chunk (4 * j) 4 src) (places_are i less)
    ∙ cell src (4 * c) (omega arith)
    ∙ ap (stored Rgba8Pre)
    (ap (λ (bytes : List ℕ). read_at Rgba8Pre bytes (4 * c)) src_is ∙ read_drawn w row c in_row
    ∙ ap (λ (x : ℕ). pixel image x v) (zero-add c) ∙ straight_colour b image (a + i) d c v straight refl v_is))

-- chosen rows of a column
pub column_shown : (b : Bound) (image : Bitmap) (a d n : ℕ) (places : List ℕ) → image.format ≢ A8
    → length image.bytes ≡ image_bytes image.size image.format
    → is_crossed b.turn b.layer ≡ true → length places ≡ n → down b.turn b.layer d < image.size.w
    → ((i : ℕ) → i < n → get_or places i 0 ≡ across b.turn b.layer (a + i))
    → ((i : ℕ) → i < n → across b.turn b.layer (a + i) < image.size.h)
    → gathered_column image.bytes (down b.turn b.layer d) image.size.w places ≡ drawn_row n Rgba8Pre (λ i. source_colour b image (a + i) d)
column_shown b image a d n places colours bytes crossed count column places_are low =
    let u : ℕ = down b.turn b.layer d in
    let w : ℕ = image.size.w in
    gathered_drawn (λ r. chunk (4 * (u + r * w)) 4 image.bytes) places n (λ i. source_colour b image (a + i) d) count
    (λ i less.
    let v : ℕ = across b.turn b.layer (a + i) in
    let place : 4 * (u + v * w) ≡ 4 * (v * w + u) = omega arith in
    let room : 4 * (v * w + u) + 4 ≤ length image.bytes = place_in image u v colours bytes column (low i less) in
    ap (λ (j : ℕ). chunk (4 * (u + j * w)) 4 image.bytes) (places_are i less)
    ∙ ap (λ (j : ℕ). chunk j 4 image.bytes) place
    ∙ cell image.bytes (4 * (v * w + u)) room
    ∙ ap (stored Rgba8Pre) (sym (pixel_is image u v colours) ∙ crossed_colour b image (a + i) d v crossed refl))
