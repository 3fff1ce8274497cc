-- Rows that are written at once.
use Rattle.std.proofs.Common.{◌≡◌, ℕ, zero, suc, ◌+◌, ◌-◌, ◌*◌, ◌<◌, ◌≤◌, List, ◌++◌, length, take, drop, pos, ℤ, refl, sym}
use Rattle.std.proofs.Common.{ap, subst, ◌∙◌, arith, false, zero-add, add-zero}
use Rattle.std.specs.Prelude.{◌≢◌, Option, None, Some, flat_map, nat_abs}
use Rattle.std.specs.List.{range_with_len}
use Rattle.std.specs.Simd.Lanes.{chunk}
use Rattle.std.proofs.Math.Nat.{mul-le-mul_right}
use Rattle.std.proofs.lemmas.Int.{ints}
use Rattle.std.proofs.lemmas.Bool.Decides.{nat_tests}
use Rattle.std.proofs.lemmas.List.{drop-take, take-take, drop-drop}
use Rattle.std.proofs.lemmas.Simd.{length-chunk}
use Rattle.wf_pixel.specs.declared.Rgba.{Rgba}
use Rattle.wf_pixel.specs.declared.Format.TheVariants.{Rgba8Pre, A8}
use Rattle.wf_pixel.specs.declared.Rotation.{Rotation}
use Rattle.wf_pixel.specs.Along.{along}
use Rattle.wf_pixel.specs.Arithmetic.{over}
use Rattle.wf_pixel.specs.Place.{turned, size_of}
use Rattle.wf_row.specs.declared.AlphaMode.{AlphaMode}
use Rattle.wf_row.specs.declared.AlphaMode.TheVariants.{Opaque}
use Rattle.wf_row.specs.Bytes.{blended}
use Rattle.wf_image.specs.Bitmap.{Bitmap, pixel, image_bytes, stored, read_at, drawn_row}
use Rattle.wf_scene.specs.declared.Layer.{Layer}
use Rattle.wf_kernel.specs.declared.stretch.Stretch.{Stretch}
use Rattle.wf_kernel.specs.declared.strips.Strip.{Strip}
use Rattle.wf_kernel.specs.Bound.{Bound, IsShowable, bound_colour, bound_row, bound_rows, bound_texel, layer_at, no_bound}
use Rattle.wf_kernel.specs.Hiding.{IsCover}
use Rattle.wf_kernel.specs.Laid.{IsStretch, IsStretchIn, laid, lifted_pixel}
use Rattle.wf_kernel.specs.Placed.{placed, row_of, across, down, from_left, from_top, is_crossed, is_quarter, source_colour}
use Rattle.wf_kernel.specs.Level.{IsLevel}
use Rattle.wf_kernel.specs.Strips.{IsStrip}
use Rattle.wf_kernel.proofs.Blended.{blended_drawn}
use Rattle.wf_kernel.proofs.Copied.{copied_laid}
use Rattle.wf_kernel.proofs.Cuts.{base_low, base_covers, strip_drawn}
use Rattle.wf_kernel.proofs.Gathered.{forward_shown, four_bytes, part_drawn, straight_low}
use Rattle.wf_kernel.proofs.Kept.{stretch_shown}
use Rattle.wf_kernel.proofs.Pieces.{pieces-more}
use Rattle.wf_kernel.proofs.Pixels.{pieces_same, pieces_shift, pieces_split, read_chunk}
use Rattle.wf_kernel.proofs.Placed.{samp_level}
use Rattle.wf_kernel.proofs.Stacks.{laid_first}

-- ---- rows one behind the other
-- where row k begins, and the next one
at_row : (k w : ℕ) → k * (4 * w) ≡ 4 * (k * w)
at_row k w = grind arith

row_within : (k n w : ℕ) → k < n → k * (4 * w) + 4 * w ≤ 4 * (n * w)
row_within k n w low =
    let all : (k + 1) * w ≤ n * w = mul-le-mul_right w (omega arith) in
    let next : (k + 1) * w ≡ k * w + w = grind arith in
    let at = at_row k w in
    omega arith

-- pieces in rows of w
grid : (f : ℕ → List ℕ) (w n : ℕ)
    → flat_map f (range_with_len 0 (n * w)) ≡ flat_map (λ k. flat_map (λ x. f (k * w + x)) (range_with_len 0 w)) (range_with_len 0 n)
grid f w zero = let none : 0 * w ≡ 0 = omega arith in ap (λ (j : ℕ). flat_map f (range_with_len 0 j)) none
grid f w (suc n) =
    let rows : ℕ → List ℕ = λ k. flat_map (λ x. f (k * w + x)) (range_with_len 0 w) in
    let split : suc n * w ≡ n * w + w = grind arith in
    let count : n + 1 ≡ suc n = omega arith in
    let last : flat_map f (range_with_len (0 + n * w) w) ≡ rows n =
    ap (λ (j : ℕ). flat_map f (range_with_len j w)) (zero-add (n * w) ∙ sym (add-zero (n * w))) ∙ pieces_shift f (n * w) 0 w in
    ap (λ (j : ℕ). flat_map f (range_with_len 0 j)) split
    ∙ pieces_split f 0 (n * w) w
    ∙ (λ i. grid f w n i ++ last i)
    ∙ sym (pieces-more rows 0 n n (sym (zero-add n)))
    ∙ ap (λ (j : ℕ). flat_map rows (range_with_len 0 j)) count

-- rows that are those of the target
alike : (w n y : ℕ) (layers : List Bound) (background : Rgba) (row : ℕ → List ℕ)
    → ((k : ℕ) → k < n → row k ≡ bound_row w layers background (y + k))
    → flat_map row (range_with_len 0 n) ≡ bound_rows w layers background y n
alike w n y layers background row same =
    pieces_same row (λ k. bound_row w layers background (y + k)) 0 n (λ k low high. same k (omega arith))
    ∙ sym (pieces_shift (bound_row w layers background) y 0 n)
    ∙ ap (λ (j : ℕ). bound_rows w layers background j n) (add-zero y)

-- a row of a strip that is as wide as the target
strip_row : (layers : List Bound) (background : Rgba) (w y : ℕ) (s : Strip) → IsStrip layers w s → s.width ≡ w → s.from ≤ y → y < s.bottom
    → drawn_row w Rgba8Pre (λ x. bound_colour (take s.top layers) background (s.first + x) y) ≡ bound_row w layers background y
strip_row layers background w y s strip whole from bottom =
    let within = strip.within in
    let at : (x : ℕ) → s.first + x ≡ x = λ x. omega arith in
    (λ j. drawn_row (sym whole j) Rgba8Pre (λ x. bound_colour (take s.top layers) background (s.first + x) y))
    ∙ strip_drawn layers background w y s strip from bottom
    ∙ (λ j. drawn_row (whole j) Rgba8Pre (λ x. bound_colour layers background (at x j) y))

-- ---- rows of the background
pub filled_rows : (layers : List Bound) (background : Rgba) (w n y : ℕ) (s : Strip) → IsStrip layers w s → s.width ≡ w → s.from ≤ y
    → y + n ≤ s.bottom → s.top ≡ 0 → drawn_row (n * w) Rgba8Pre (λ _. background) ≡ bound_rows w layers background y n
filled_rows layers background w n y s strip whole from bottom none =
    grid (λ _. stored Rgba8Pre background) w n
    ∙ alike w n y layers background (λ _. drawn_row w Rgba8Pre (λ _. background))
    (λ k low.
    ap (λ (i : ℕ). drawn_row w Rgba8Pre (λ x. bound_colour (take i layers) background (s.first + x) (y + k))) (sym none)
    ∙ strip_row layers background w (y + k) s strip whole (omega arith) (omega arith))

-- ---- rows of a source
part_of : (a m b n : ℕ) (bytes : List ℕ) → a + m ≤ n → chunk a m (chunk b n bytes) ≡ chunk (b + a) m bytes
part_of a m b n bytes le =
    let rest : ℕ = n - a in
    let all : n ≡ a + rest = omega arith in
    ap (λ (k : ℕ). take m (drop a (take k (drop b bytes)))) all
    ∙ ap (take m) (drop-take a rest (drop b bytes))
    ∙ take-take m rest (drop a (drop b bytes)) (omega arith)
    ∙ ap (take m) (drop-drop a b bytes)

-- rows lie in the bytes
pub rows_room : (image : Bitmap) (y n : ℕ) → image.format ≢ A8 → length image.bytes ≡ image_bytes image.size image.format
    → y + n ≤ image.size.h → 4 * (y * image.size.w) + 4 * (n * image.size.w) ≤ length image.bytes
rows_room image y n colours bytes within =
    let w : ℕ = image.size.w in
    let h : ℕ = image.size.h in
    let four = four_bytes image.format colours in
    let all : length image.bytes ≡ w * h * 4 = bytes ∙ ap (λ (k : ℕ). w * h * k) four in
    let rows : (y + n) * w ≤ h * w = mul-le-mul_right w within in
    let sum : (y + n) * w ≡ y * w + n * w = grind arith in
    let turned : h * w ≡ w * h = grind arith in
    omega arith

-- row k of some rows of an image
pub image_row : (image : Bitmap) (y n k at count : ℕ) → image.format ≢ A8 → length image.bytes ≡ image_bytes image.size image.format
    → y + n ≤ image.size.h → k < n → at ≡ 4 * (y * image.size.w) → count ≡ 4 * (n * image.size.w)
    → chunk (k * (4 * image.size.w)) (4 * image.size.w) (chunk at count image.bytes)
    ≡ drawn_row image.size.w Rgba8Pre (λ i. pixel image i (y + k))
image_row image y n k at count colours bytes within low at_is count_is =
    let w : ℕ = image.size.w in
    let room : k * (4 * w) + 4 * w ≤ count = subst (λ (c : ℕ). k * (4 * w) + 4 * w ≤ c) (sym count_is) (row_within k n w low) in
    let sum : (y + k) * w ≡ y * w + k * w = grind arith in
    let row = at_row k w in
    let place : at + k * (4 * w) ≡ 4 * ((y + k) * w + 0) = omega arith in
    part_of (k * (4 * w)) (4 * w) at count image.bytes room
    ∙ part_drawn image 0 (y + k) w (at + k * (4 * w)) (4 * w) colours bytes (omega arith) (omega arith) place refl
    ∙ (λ j. drawn_row w Rgba8Pre (λ i. pixel image (zero-add i j) (y + k)))

-- rows that are blended at once are blended row by row
blended_rows : (mode : AlphaMode) (fade : Option ℕ) (w n : ℕ) (src old : List ℕ) → length src ≡ 4 * (n * w) → length old ≡ 4 * (n * w)
    → blended mode fade src old
    ≡ flat_map (λ k. blended mode fade (chunk (k * (4 * w)) (4 * w) src) (chunk (k * (4 * w)) (4 * w) old)) (range_with_len 0 n)
blended_rows mode fade w n src old src_len old_len =
    let f : ℕ → List ℕ = λ i. stored Rgba8Pre
    (over (lifted_pixel mode fade (read_at Rgba8Pre src (4 * i))) (read_at Rgba8Pre old (4 * i))) in
    let part : ℕ → List ℕ → List ℕ = λ k l. chunk (k * (4 * w)) (4 * w) l in
    let row : ℕ → ℕ → List ℕ = λ k x. stored Rgba8Pre
    (over (lifted_pixel mode fade (read_at Rgba8Pre (part k src) (4 * x))) (read_at Rgba8Pre (part k old) (4 * x))) in
    blended_drawn mode fade (n * w) src old src_len old_len
    ∙ grid f w n
    ∙ pieces_same (λ k. flat_map (λ x. f (k * w + x)) (range_with_len 0 w)) (λ k. blended mode fade (part k src) (part k old)) 0 n
    (λ k start low.
    let within : k * (4 * w) + 4 * w ≤ 4 * (n * w) = row_within k n w (omega arith) in
    let at = at_row k w in
    pieces_same (λ x. f (k * w + x)) (row k) 0 w
    (λ x first less.
    let to : 4 * (k * w + x) ≡ k * (4 * w) + 4 * x = omega arith in
    let read : (l : List ℕ) → read_at Rgba8Pre l (4 * (k * w + x)) ≡ read_at Rgba8Pre (part k l) (4 * x) = λ l.
    sym (read_chunk l (k * (4 * w)) w x (4 * (k * w + x)) (omega arith) to) in
    λ j. stored Rgba8Pre (over (lifted_pixel mode fade (read src j)) (read old j)))
    ∙ sym (blended_drawn mode fade w (part k src) (part k old)
    (length-chunk (k * (4 * w)) (4 * w) src (omega arith)) (length-chunk (k * (4 * w)) (4 * w) old (omega arith))))

-- ---- a layer that is level
level_across : (b : Bound) (image : Bitmap) (w a : ℕ) → IsShowable b → IsLevel b image w
    → across b.turn b.layer a ≡ nat_abs b.layer.src.x + a
level_across b image w a showable level =
    let l : Layer = b.layer in
    ap (λ (t : Rotation). across t l a) level.turn
    ∙ ap (λ (t : Rotation). from_left t l.src l.flip l.dest.w a) level.layer_turn
    ∙ samp_level (nat_abs l.src.x) a l.dest.w l.src.w level.wide showable.dest.w_low

level_down : (b : Bound) (image : Bitmap) (w d : ℕ) → IsShowable b → IsLevel b image w
    → down b.turn b.layer d ≡ nat_abs b.layer.src.y + d
level_down b image w d showable level =
    let l : Layer = b.layer in
    ap (λ (t : Rotation). down t l d) level.turn
    ∙ (λ i. from_top (level.layer_turn i) l.src (level.flip i) l.dest.h d)
    ∙ samp_level (nat_abs l.src.y) d l.dest.h l.src.h level.high showable.dest.h_low

level_straight : (b : Bound) (image : Bitmap) (w : ℕ) → IsLevel b image w → is_crossed b.turn b.layer ≡ false
level_straight b image w level =
    ap (λ (t : Rotation). is_crossed t b.layer) level.turn ∙ ap (λ (t : Rotation). is_quarter t) level.layer_turn

pub level_high : (b : Bound) (image : Bitmap) (w : ℕ) → IsLevel b image w → (placed b).h ≡ b.layer.dest.h
level_high b image w level = ap (λ (t : Rotation). (turned t (size_of b.layer.dest)).h) level.turn

-- the last row of the source that is shown lies in it
pub level_low : (b : Bound) (image : Bitmap) (w n : ℕ) (s : Stretch) → IsShowable b → b.source ≡ Some image → IsLevel b image w
    → IsStretch b s → 1 ≤ n → s.down + n ≤ b.layer.dest.h → down b.turn b.layer s.down + n ≤ image.size.h
level_low b image w n s showable source level is some within =
    let inside = is.inside in
    let len = is.some in
    let high = level_high b image w level in
    let first = level_down b image w s.down showable level in
    let last = level_down b image w (s.down + (n - 1)) showable level in
    let straight = level_straight b image w level in
    let below = (straight_low b image s.across (s.down + (n - 1)) showable source (omega arith) (omega arith) straight).1 in
    omega arith

-- a row of the source is shown as it stands
level_line : (b : Bound) (image : Bitmap) (w k : ℕ) (s : Stretch) → IsShowable b → b.source ≡ Some image → IsLevel b image w
    → IsStretch b s → s.len ≡ w → s.down + k < (placed b).h
    → drawn_row w Rgba8Pre (λ i. pixel image i (down b.turn b.layer s.down + k))
    ≡ drawn_row w Rgba8Pre (λ i. source_colour b image (s.across + i) (s.down + k))
level_line b image w k s showable source level is len low =
    let inside = is.inside in
    let some = is.some in
    let whole = level.whole in
    let straight = level_straight b image w level in
    let last : ℕ = s.across + (w - 1) in
    let end = (straight_low b image last (s.down + k) showable source (omega arith) low straight).0 in
    let end_is = level_across b image w last showable level in
    let first = level_down b image w s.down showable level in
    let row_is = level_down b image w (s.down + k) showable level in
    let row : down b.turn b.layer s.down + k ≡ down b.turn b.layer (s.down + k) = omega arith in
    (λ j. drawn_row w Rgba8Pre (λ i. pixel image (sym (zero-add i) j) (down b.turn b.layer s.down + k)))
    ∙ forward_shown b image s.across (s.down + k) w 0 (down b.turn b.layer s.down + k) straight row
    (λ i less. level_across b image w (s.across + i) showable level ∙ omega arith)

along_next : (x : ℤ) (h y d k : ℕ) → along x h (pos y) ≡ Some d → d + k < h → along x h (pos (y + k)) ≡ Some (d + k)
along_next x h y d k e low = grind (arith, ints, nat_tests)

-- rows of the source that are copied at once are the layer laid over each row
pub level_laid : (b : Bound) (image : Bitmap) (w n y : ℕ) (s : Stretch) (src part : List ℕ) → IsShowable b → b.source ≡ Some image
    → IsLevel b image w → IsStretchIn b 0 w y s → w ≤ s.len → s.down + n ≤ b.layer.dest.h
    → length src ≡ 4 * (n * w) → length part ≡ 4 * (n * w)
    → ((k : ℕ) → k < n → chunk (k * (4 * w)) (4 * w) src ≡ drawn_row w Rgba8Pre (λ i. pixel image i (down b.turn b.layer s.down + k)))
    → blended Opaque None src part
    ≡ flat_map (λ k. laid w (λ x. bound_texel b (0 + x) (y + k)) (chunk (k * (4 * w)) (4 * w) part)) (range_with_len 0 n)
level_laid b image w n y s src part showable source level is wide within src_len part_len rows =
    let stretch = is.stretch in
    let some = stretch.some in
    let right = stretch.high in
    let inside = stretch.inside in
    let start = is.start in
    let end = is.end in
    let y_is = is.row in
    let high = level_high b image w level in
    let len : s.len ≡ w = omega arith in
    let left : s.x ≡ 0 = omega arith in
    blended_rows Opaque None w n src part src_len part_len
    ∙ pieces_same (λ k. blended Opaque None (chunk (k * (4 * w)) (4 * w) src) (chunk (k * (4 * w)) (4 * w) part))
    (λ k. laid w (λ x. bound_texel b (0 + x) (y + k)) (chunk (k * (4 * w)) (4 * w) part)) 0 n
    (λ k first less.
    let low : s.down + k < (placed b).h = omega arith in
    let old : List ℕ = chunk (k * (4 * w)) (4 * w) part in
    let room : k * (4 * w) + 4 * w ≤ 4 * (n * w) = row_within k n w (omega arith) in
    let count : length old ≡ 4 * w = length-chunk (k * (4 * w)) (4 * w) part (omega arith) in
    let line = rows k (omega arith) ∙ level_line b image w k s showable source level stretch len low in
    let at : Stretch = record { x = s.x; y = y + k; across = s.across; down = s.down + k; len = w } in
    let there : IsStretch b at = record {
      some = omega arith;
      high = omega arith;
      inside = omega arith;
      below = low;
      columns = λ i less. stretch.columns i (omega arith);
      row = along_next (placed b).y (placed b).h y s.down k
          (ap (row_of b) (sym y_is) ∙ stretch.row) low;
    } in
    copied_laid b image at (chunk (k * (4 * w)) (4 * w) src) old level.copied line count
    ∙ stretch_shown b image at old showable source there
    ∙ (λ j. laid w (λ x. bound_texel b (left j + x) (y + k)) old))

-- the layer that covers the rows of a strip, laid over whatever is there
pub based_rows : (layers : List Bound) (background : Rgba) (w n y j : ℕ) (s : Strip) (b : Bound) (part : List ℕ) → IsStrip layers w s
    → s.width ≡ w → s.from ≤ y → y + n ≤ s.bottom → s.base ≡ Some j → s.top ≡ j + 1 → b ≡ layer_at layers j
    → flat_map (λ k. laid w (λ x. bound_texel b (0 + x) (y + k)) (chunk (k * (4 * w)) (4 * w) part)) (range_with_len 0 n)
    ≡ bound_rows w layers background y n
based_rows layers background w n y j s b part strip whole from bottom base top same =
    let within = strip.within in
    let left : 0 ≡ s.first = omega arith in
    alike w n y layers background (λ k. laid w (λ x. bound_texel b (0 + x) (y + k)) (chunk (k * (4 * w)) (4 * w) part))
    (λ k low.
    let old : List ℕ = chunk (k * (4 * w)) (4 * w) part in
    let cover : IsCover (layer_at layers j) s.first w (y + k) =
    subst (λ (n : ℕ). IsCover (layer_at layers j) s.first n (y + k)) whole
    (base_covers layers w j (y + k) s strip base (omega arith) (omega arith)) in
    (λ i. laid w (λ x. bound_texel (same i) (left i + x) (y + k)) old)
    ∙ laid_first s.first w layers j no_bound background (y + k) old (base_low layers w j s strip base) cover
    ∙ ap (λ (i : ℕ). drawn_row w Rgba8Pre (λ x. bound_colour (take i layers) background (s.first + x) (y + k))) (sym top)
    ∙ strip_row layers background w (y + k) s strip whole (omega arith) (omega arith))
