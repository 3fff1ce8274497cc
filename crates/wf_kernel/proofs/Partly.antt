-- Pixels of a part are written row by row, and the others stay.
use Rattle.std.proofs.Common.{◌≡◌, ℕ, ◌+◌, ◌-◌, ◌*◌, ◌<◌, ◌≤◌, List, ◌++◌, length, take, drop, get_or, refl, sym, ap, ◌∙◌, arith}
use Rattle.std.proofs.Common.{Bool, true, false, ℤ, pos, negsuc, inl, inr, ◌≢◌, length-append, length-take, length-drop}
use Rattle.std.specs.Prelude.{flat_map, nat_le, nat_lt, ◌&&◌, is_some, if◌then◌else◌}
use Rattle.std.specs.List.{range_with_len}
use Rattle.std.proofs.Math.Seq.{get_or-append_right}
use Rattle.std.proofs.Math.ListN.{get_or-append}
use Rattle.std.proofs.lemmas.List.{get_or-take, get_or-drop}
use Rattle.std.proofs.lemmas.Bool.{cases_lt}
use Rattle.std.proofs.lemmas.Bool.Decides.{nat_tests}
use Rattle.std.proofs.lemmas.Int.{ints}
use borrow.Rule.Slice.PartMut.{put_mid}
use Rattle.wf_pixel.specs.declared.Rgba.{Rgba}
use Rattle.wf_pixel.specs.declared.Rect.{Rect}
use Rattle.wf_pixel.specs.declared.Rotation.{Rotation}
use Rattle.wf_pixel.specs.declared.Rotation.TheVariants.{R0, R90, R180, R270}
use Rattle.wf_pixel.specs.declared.Size.{Size}
use Rattle.wf_pixel.specs.Place.{turned, turned_back}
use Rattle.wf_pixel.specs.declared.Format.TheVariants.{Rgba8Pre}
use Rattle.wf_pixel.specs.Along.{along}
use Rattle.wf_image.specs.Bitmap.{Bitmap, stored, read_at, drawn_row, drawn, pixel, pixel_bytes}
use Rattle.wf_kernel.specs.declared.parts.Part.{Part}
use Rattle.wf_kernel.specs.Parts.{covers, covers_at, part_picture}
use Rattle.wf_kernel.specs.PartOfTarget.{holds, part_colour, turned_part, IsPart, IsPartly}
use Rattle.wf_kernel.proofs.Bindings.{bound_colour_is}
use Rattle.wf_image.specs.Bitmap.{image_bytes}
use Rattle.wf_image.specs.Lending.{with_bytes}
use Rattle.wf_scene.specs.declared.Scene.{Scene}
use Rattle.wf_model.specs.Picture.{Images, picture_pixel}
use Rattle.std.proofs.lemmas.List.{take_at}
use Rattle.wf_image.specs.Pieces.{length-pieces}
use Rattle.wf_image.specs.Drawn.{all_drawn, pixel_in, read_drawn, read_four}

-- ---- bytes beside a part that is put in, and in it
byte_before : (a k i : ℕ) (old part : List ℕ) → i < a → a ≤ length old → get_or (put_mid a k old part) i 0 ≡ get_or old i 0
byte_before a k i old part low inside =
    let len : length (take a old) ≡ a = omega (arith, length-take a old) in
    get_or-append (take a old) (part ++ drop k (drop a old)) 0 i (omega arith) ∙ get_or-take a old i 0 low

byte_in : (a k i j : ℕ) (old part : List ℕ) → i ≡ a + j → j < length part → a ≤ length old
    → get_or (put_mid a k old part) i 0 ≡ get_or part j 0
byte_in a k i j old part at low inside =
    let len : length (take a old) ≡ a = omega (arith, length-take a old) in
    let back : i - length (take a old) ≡ j = omega arith in
    get_or-append_right (take a old) (part ++ drop k (drop a old)) i 0 (omega arith)
    ∙ ap (λ (n : ℕ). get_or (part ++ drop k (drop a old)) n 0) back
    ∙ get_or-append part (drop k (drop a old)) 0 j low

byte_behind : (a k i : ℕ) (old part : List ℕ) → a + k ≤ i → length part ≡ k → a ≤ length old
    → get_or (put_mid a k old part) i 0 ≡ get_or old i 0
byte_behind a k i old part high count inside =
    let len : length (take a old) ≡ a = omega (arith, length-take a old) in
    let j : ℕ = i - a in
    let back : i - length (take a old) ≡ j = omega arith in
    let all : a + (k + (j - length part)) ≡ i = omega arith in
    get_or-append_right (take a old) (part ++ drop k (drop a old)) i 0 (omega arith)
    ∙ ap (λ (n : ℕ). get_or (part ++ drop k (drop a old)) n 0) back
    ∙ get_or-append_right part (drop k (drop a old)) j 0 (omega arith)
    ∙ get_or-drop k (drop a old) (j - length part) 0
    ∙ get_or-drop a old (k + (j - length part)) 0
    ∙ ap (λ (n : ℕ). get_or old n 0) all

read_before : (a k i : ℕ) (old part : List ℕ) → i + 4 ≤ a → a ≤ length old
    → read_at Rgba8Pre (put_mid a k old part) i ≡ read_at Rgba8Pre old i
read_before a k i old part low inside =
    λ j. record {
      r = byte_before a k i old part (omega arith) inside j;
      g = byte_before a k (i + 1) old part (omega arith) inside j;
      b = byte_before a k (i + 2) old part (omega arith) inside j;
      a = byte_before a k (i + 3) old part (omega arith) inside j;
    }

read_behind : (a k i : ℕ) (old part : List ℕ) → a + k ≤ i → length part ≡ k → a ≤ length old
    → read_at Rgba8Pre (put_mid a k old part) i ≡ read_at Rgba8Pre old i
read_behind a k i old part high count inside =
    λ j. record {
      r = byte_behind a k i old part (omega arith) count inside j;
      g = byte_behind a k (i + 1) old part (omega arith) count inside j;
      b = byte_behind a k (i + 2) old part (omega arith) count inside j;
      a = byte_behind a k (i + 3) old part (omega arith) count inside j;
    }

read_in : (a k i j : ℕ) (old part : List ℕ) → i ≡ a + j → j + 4 ≤ length part → a ≤ length old
    → read_at Rgba8Pre (put_mid a k old part) i ≡ read_at Rgba8Pre part j
read_in a k i j old part at low inside =
    λ n. record {
      r = byte_in a k i j old part (omega arith) (omega arith) inside n;
      g = byte_in a k (i + 1) (j + 1) old part (omega arith) (omega arith) inside n;
      b = byte_in a k (i + 2) (j + 2) old part (omega arith) (omega arith) inside n;
      a = byte_in a k (i + 3) (j + 3) old part (omega arith) (omega arith) inside n;
    }

-- ---- one more row of a part
abbrev pub upto : Part → ℕ → Part
upto p y = record p { bottom = y }

-- a row lies before the next ones
rows_apart : (w y v : ℕ) → y < v → y * w + w ≤ v * w
rows_apart w y v low = grind arith

held : (p : Part) (x y v : ℕ) → v ≡ y → p.left ≤ x → x < p.right → p.top ≤ y → holds (upto p (y + 1)) x v ≡ true
held p x y v at a b c = grind (arith, nat_tests)

other_row : (p : Part) (x y v : ℕ) → v ≢ y → holds (upto p (y + 1)) x v ≡ holds (upto p y) x v
other_row p x y v out = grind (arith, nat_tests)

left_of : (p : Part) (x y v : ℕ) → x < p.left → holds (upto p (y + 1)) x v ≡ holds (upto p y) x v
left_of p x y v out = grind (arith, nat_tests)

right_of : (p : Part) (x y v : ℕ) → p.right ≤ x → holds (upto p (y + 1)) x v ≡ holds (upto p y) x v
right_of p x y v out = grind (arith, nat_tests)

none_held : (p : Part) (x v : ℕ) → holds (upto p p.top) x v ≡ false
none_held p x v = grind (arith, nat_tests)

-- a pixel that is not written in this row
pixel_stays : (w : ℕ) (colour : ℕ → ℕ → Rgba) (p : Part) (x y v : ℕ) (old mid new : List ℕ)
    → pixel_in w new x v ≡ pixel_in w mid x v
    → pixel_in w mid x v ≡ (if holds (upto p y) x v then colour x v else pixel_in w old x v)
    → holds (upto p (y + 1)) x v ≡ holds (upto p y) x v
    → pixel_in w new x v ≡ (if holds (upto p (y + 1)) x v then colour x v else pixel_in w old x v)
pixel_stays w colour p x y v old mid new stays before beside =
    stays ∙ before ∙ ap (λ (b : Bool). if b then colour x v else pixel_in w old x v) (sym beside)

-- what one more row changes
pub part_more : (w h : ℕ) (colour : ℕ → ℕ → Rgba) (p : Part) (y at k : ℕ) (old mid new piece : List ℕ) → IsPart w h p → p.top ≤ y → y < h
    → length old ≡ w * h * 4 → at ≡ 4 * (y * w + p.left) → k ≡ 4 * (p.right - p.left) → new ≡ put_mid at k mid piece
    → piece ≡ drawn_row (p.right - p.left) Rgba8Pre (λ x. colour (p.left + x) y) → IsPartly w h colour (upto p y) old mid
    → IsPartly w h colour (upto p (y + 1)) old new
part_more w h colour p y at k old mid new piece inside top low count at_is k_is new_is piece_is before =
    let n : ℕ = p.right - p.left in
    let columns = inside.columns in
    let right = inside.right in
    let long : length mid ≡ length old = before.len in
    let part_len : length piece ≡ k =
    ap (λ (l : List ℕ). length l) piece_is ∙ length-pieces (λ x. stored Rgba8Pre (colour (p.left + x) y)) 4 0 n (λ x. refl) ∙ sym k_is in
    let last : y * w + w ≤ h * w = rows_apart w y h low in
    let area : w * h * 4 ≡ 4 * (h * w) = grind arith in
    let room : at + k ≤ length mid = omega arith in
    let len : length (put_mid at k mid piece) ≡ length mid =
    omega (
      arith,
      length-append (take at mid) (piece ++ drop k (drop at mid)),
      length-append piece (drop k (drop at mid)),
      length-take at mid,
      length-drop k (drop at mid),
      length-drop at mid,
    ) in
    let before_read : (i : ℕ) → i + 4 ≤ at → read_at Rgba8Pre new i ≡ read_at Rgba8Pre mid i =
    λ i less. ap (λ (l : List ℕ). read_at Rgba8Pre l i) new_is ∙ read_before at k i mid piece less (omega arith) in
    let behind_read : (i : ℕ) → at + k ≤ i → read_at Rgba8Pre new i ≡ read_at Rgba8Pre mid i =
    λ i more. ap (λ (l : List ℕ). read_at Rgba8Pre l i) new_is ∙ read_behind at k i mid piece more part_len (omega arith) in
    record {
      len = ap (λ (l : List ℕ). length l) new_is ∙ len ∙ long;
      pixels = λ x v x_low v_low.
          elim (cases_lt v y) [
            | inl above ↦ (let apart = rows_apart w v y above in
                pixel_stays w colour p x y v old mid new (before_read (4 * (v * w + x)) (omega arith)) (before.pixels x v x_low v_low)
                (other_row p x y v (λ e. omega (arith, e, above))))
            | inr not_above ↦ elim (cases_lt y v) [
              | inl below ↦ (let apart = rows_apart w y v below in
                  pixel_stays w colour p x y v old mid new (behind_read (4 * (v * w + x)) (omega arith)) (before.pixels x v x_low v_low)
                  (other_row p x y v (λ e. omega (arith, e, below))))
              | inr not_below ↦ (let same : v ≡ y = omega arith in
                  let row : v * w ≡ y * w = ap (λ (n : ℕ). n * w) same in
                  elim (cases_lt x p.left) [
                    | inl less ↦ pixel_stays w colour p x y v old mid new (before_read (4 * (v * w + x)) (omega arith))
                        (before.pixels x v x_low v_low) (left_of p x y v less)
                    | inr from ↦ elim (cases_lt x p.right) [
                      | inl within ↦ (let j : ℕ = x - p.left in
                          let there : p.left + j ≡ x = omega arith in
                          ap (λ (l : List ℕ). read_at Rgba8Pre l (4 * (v * w + x))) new_is
                          ∙ read_in at k (4 * (v * w + x)) (4 * j) mid piece (omega arith) (omega arith) (omega arith)
                          ∙ ap (λ (l : List ℕ). read_at Rgba8Pre l (4 * j)) piece_is
                          ∙ read_drawn n (λ x. colour (p.left + x) y) j (omega arith)
                          ∙ (λ i. colour (there i) (sym same i))
                          ∙ ap (λ (b : Bool). if b then colour x v else pixel_in w old x v) (sym (held p x y v same from within top)))
                      | inr more ↦ pixel_stays w colour p x y v old mid new (behind_read (4 * (v * w + x)) (omega arith))
                          (before.pixels x v x_low v_low) (right_of p x y v more)
                    ]
                  ])
            ]
          ];
    }

-- nothing is written yet
pub part_none : (w h : ℕ) (colour : ℕ → ℕ → Rgba) (p : Part) (old : List ℕ) → IsPartly w h colour (upto p p.top) old old
part_none w h colour p old =
    record {
      len = refl;
      pixels = λ x y x_low y_low. ap (λ (b : Bool). if b then colour x y else pixel_in w old x y) (sym (none_held p x y));
    }

-- ---- the part of an area
pub side_before : (m w j end : ℕ) → (j < end → m + 1 + j < w) → (end ≤ j → w ≤ m + 1 + j)
    → (nat_le 0 j && nat_lt j end) ≡ is_some (along (negsuc m) w (pos j))
side_before m w j end within out =
    elim (cases_lt j end) [
      | inl less ↦ (let low = within less in grind (arith, ints, nat_tests))
      | inr more ↦ (let high = out more in grind (arith, ints, nat_tests))
    ]

pub side_from : (n w j start end : ℕ) → (start ≤ j → n ≤ j) → (j < start → j < n) → (j < end → j < n + w) → (end ≤ j → n + w ≤ j)
    → (nat_le start j && nat_lt j end) ≡ is_some (along (pos n) w (pos j))
side_from n w j start end a b c d =
    elim (cases_lt j start) [
      | inl less ↦ (let low = b less in grind (arith, ints, nat_tests))
      | inr more ↦ (let high = a more in elim (cases_lt j end) [
        | inl less ↦ (let low = c less in grind (arith, ints, nat_tests))
        | inr over ↦ (let high = d over in grind (arith, ints, nat_tests))
      ])
    ]

-- a side that is counted from the other end
mirror : (n start end j : ℕ) → start ≤ end → end ≤ n → j < n
    → (nat_le (n - end) j && nat_lt j (n - start)) ≡ (nat_le start (n - 1 - j) && nat_lt (n - 1 - j) end)
mirror n start end j order within low = grind (arith, nat_tests)

-- ---- an area in a space that is turned
abbrev pub side_holds : ℤ → ℕ → ℕ → ℕ → ℕ → Type 0
side_holds x w n start end = (j : ℕ) → j < n → (nat_le start j && nat_lt j end) ≡ is_some (along x w (pos j))

and_turned : (a b : Bool) → (a && b) ≡ (b && a)
and_turned true true = refl
and_turned true false = refl
and_turned false true = refl
and_turned false false = refl

far_side : (x : ℤ) (w n start end j : ℕ) → start ≤ end → end ≤ n → j < n → side_holds x w n start end
    → (nat_le (n - end) j && nat_lt j (n - start)) ≡ is_some (along x w (pos (n - 1 - j)))
far_side x w n start end j order within low side = mirror n start end j order within low ∙ side (n - 1 - j) (omega arith)

-- an area of the space, turned into the target, lies in it
pub turned_is : (turn : Rotation) (size : Size) (p : Part) → IsPart (turned turn size).w (turned turn size).h p
    → IsPart size.w size.h (turned_part turn (turned turn size) p)
turned_is R0 size p is = is
turned_is R90 size p is =
    let rows = is.rows in
    record { columns = omega arith; right = omega arith; rows = is.columns; bottom = is.right }
turned_is R180 size p is =
    let columns = is.columns in let rows = is.rows in
    record { columns = omega arith; right = omega arith; rows = omega arith; bottom = omega arith }
turned_is R270 size p is =
    let columns = is.columns in
    record { columns = is.rows; right = is.bottom; rows = omega arith; bottom = omega arith }

-- and holds the pixels that come from the area
pub turned_holds : (turn : Rotation) (size : Size) (a : Rect) (p : Part) (x y : ℕ) → IsPart (turned turn size).w (turned turn size).h p
    → side_holds a.x a.w (turned turn size).w p.left p.right → side_holds a.y a.h (turned turn size).h p.top p.bottom
    → x < size.w → y < size.h → let q : ℕ × ℕ = turned_back turn (turned turn size) x y in
    holds (turned_part turn (turned turn size) p) x y ≡ covers a (pos q.0) (pos q.1)
turned_holds R0 size a p x y is columns rows x_low y_low = λ i. columns x x_low i && rows y y_low i
turned_holds R90 size a p x y is columns rows x_low y_low =
    and_turned (nat_le (size.w - p.bottom) x && nat_lt x (size.w - p.top)) (nat_le p.left y && nat_lt y p.right)
    ∙ (λ i. columns y y_low i && far_side a.y a.h size.w p.top p.bottom x is.rows is.bottom x_low rows i)
turned_holds R180 size a p x y is columns rows x_low y_low =
    λ i. far_side a.x a.w size.w p.left p.right x is.columns is.right x_low columns i
    && far_side a.y a.h size.h p.top p.bottom y is.rows is.bottom y_low rows i
turned_holds R270 size a p x y is columns rows x_low y_low =
    and_turned (nat_le p.top x && nat_lt x p.bottom) (nat_le (size.h - p.right) y && nat_lt y (size.h - p.left))
    ∙ (λ i. far_side a.x a.w size.h p.left p.right y is.columns is.right y_low columns i && rows x x_low i)

-- ---- an image whose bytes hold the part
-- the colours of a part at the pixels that it holds
held_columns : (p : Part) (x y : ℕ) → holds p x y ≡ true → (p.left ≤ x) × (x < p.right)
held_columns p x y e = (grind (arith, nat_tests), grind (arith, nat_tests))

colour_held : (s : Scene) (contents : Images) (p : Part) (x y : ℕ) (old : Rgba) (held : Bool) → holds p x y ≡ held → x < s.size.w
    → y < s.size.h
    → (if held then part_colour s contents p x y else old) ≡ (if held then picture_pixel s contents x y else old)
colour_held s contents p x y old true is x_low y_low =
    let columns = held_columns p x y is in
    bound_colour_is s contents p.left p.right x y columns.0 columns.1 x_low y_low
colour_held s contents p x y old false is x_low y_low = refl

pub part_is : (s : Scene) (contents : Images) (a : Rect) (p : Part) (image : Bitmap) (bytes : List ℕ) → image.size ≡ s.size
    → pixel_bytes image.format ≡ 4 → length image.bytes ≡ image_bytes image.size image.format
    → ((x y : ℕ) → x < s.size.w → y < s.size.h → holds p x y ≡ covers_at s a x y)
    → IsPartly s.size.w s.size.h (part_colour s contents p) p image.bytes bytes
    → with_bytes image bytes ≡ part_picture s contents a image
unfolding drawn
part_is s contents a p image bytes size four count same partly =
    let w : ℕ = image.size.w in
    let h : ℕ = image.size.h in
    let wide : w ≡ s.size.w = ap (λ (z : Size). z.w) size in
    let high : h ≡ s.size.h = ap (λ (z : Size). z.h) size in
    let colour : ℕ → ℕ → Rgba = λ x y. if covers_at s a x y then picture_pixel s contents x y else pixel image x y in
    let len : length bytes ≡ length image.bytes = partly.len in
    let count_is : length bytes ≡ w * h * 4 = len ∙ count ∙ ap (λ (k : ℕ). w * h * k) four in
    let all : take (length image.bytes) (bytes ++ drop (length bytes) image.bytes) ≡ bytes =
    take_at bytes (drop (length bytes) image.bytes) (length image.bytes) len in
    let is : bytes ≡ flat_map (λ y. drawn_row w image.format (λ x. colour x y)) (range_with_len 0 h) =
    all_drawn w h image.format colour bytes four count_is
    (λ x y x_low y_low.
    let x_in : x < s.size.w = omega (arith, wide, x_low) in
    let y_in : y < s.size.h = omega (arith, high, y_low) in
    let old : pixel_in s.size.w image.bytes x y ≡ pixel image x y =
    ap (λ (k : ℕ). read_at Rgba8Pre image.bytes (4 * (y * k + x))) (sym wide)
    ∙ read_four image.format image.bytes (4 * (y * w + x)) four
    ∙ ap (λ (k : ℕ). read_at image.format image.bytes k) (omega arith ∙ ap (λ (k : ℕ). (y * w + x) * k) (sym four)) in
    ap (λ (k : ℕ). pixel_in k bytes x y) wide
    ∙ partly.pixels x y x_in y_in
    ∙ colour_held s contents p x y (pixel_in s.size.w image.bytes x y) (holds p x y) refl x_in y_in
    ∙ (λ i. if same x y x_in y_in i then picture_pixel s contents x y else old i)) in
    rw (all) (λ i. record { size = image.size; format = image.format; bytes = is i })
