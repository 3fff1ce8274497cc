-- Printed paints are read as these paints.
use Rattle.std.proofs.Common.{◌≡◌, ◌∙◌, ℕ, zero, suc, ◌+◌, ◌-◌, ◌*◌, ◌/◌, ◌%◌, ◌^◌, ◌<◌, ◌≤◌, Bool, true, false, ◌&&◌, ◌==◌, nat_lt}
use Rattle.std.proofs.Common.{nat_le, ℤ, pos, negsuc, List, [], ◌∷◌, ◌++◌, length, Option, Some, None, Result, Ok, refl, sym, ap, subst}
use Rattle.std.proofs.Common.{arith}
use Rattle.std.specs.Prelude.{decimal, flat_map, slice_index, if◌then◌else◌}
use Rattle.std.specs.List.{list_all}
use Rattle.std.proofs.lemmas.Bool.{and_parts, eqb-true, leb-true}
use Rattle.std.proofs.lemmas.Bool.Decides.{nat_tests}
use Rattle.wf_words.specs.Refusals.{refuse_if, found_or}
use Rattle.wf_pixel.specs.declared.Rgba.{Rgba}
use Rattle.wf_image.specs.declared.paint.Paint.{Paint}
use Rattle.wf_image.specs.declared.paint.Paint.TheVariants as paint
use Rattle.wf_script.specs.declared.paint_form.PaintForm.{PaintForm}
use Rattle.wf_script.specs.declared.paint_form.PaintForm.TheVariants as form
use Rattle.wf_script.specs.declared.rule.Rule.{Rule}
use Rattle.wf_script.specs.declared.rule.Rule.TheVariants as rule
use Rattle.wf_script.specs.Canonical.{color_words, hex_byte_word, hex_digits, hex_pixel_word, paint_words}
use Rattle.wf_script.specs.Spelled.{integer_word}
use Rattle.wf_script.specs.PaintWords.{checker, color, fill, hex_byte, hex_digit, hex_pixel, hex_pixels, paint_count, paint_forms, paint_of}
use Rattle.wf_script.specs.PaintWords.{painted, ramp, rectangle, row, row_number}
use Rattle.wf_script.specs.Pick.{counted, first, first_as}
use Rattle.std.specs.Str.{byte}
use Rattle.wf_script.specs.Words.{Word, count_in, integer_in, is_digit, is_word, look_up}
use Rattle.wf_script.proofs.Clean.{all_both, is_clean, is_clean_byte}
use Rattle.wf_script.proofs.WordBack.{first_back}
use Rattle.wf_script.proofs.Numerals.{Back, count_back, integer_in_back, row_back}
use Rattle.wf_script.proofs.Steps.{AreWords, bind_ok, first_long, first_parts, found_ok, passed}
use Rattle.wf_pixel.specs.declared.TheConstants.{MOST_SIDE}
use Rattle.wf_script.specs.declared.TheConstants.{ROW_DIGITS}
use Rattle.wf_pixel.specs.Choice.{least_coordinate, most_coordinate, most_extent}

-- words that are read so, and the words behind them are left
record ReadsFront {A : Type 0} (read : List Word → Result (A × List Word) Rule) (words : List Word) (x : A) : Type 0 where
  reads : (rest : List Word) → read (words ++ rest) ≡ Ok (x, rest)
  clean : list_all is_clean words ≡ true

same_ok : {A : Type 0} (x y : A) → (let r : Result A Rule = Ok x in let s : Result A Rule = Ok y in r ≡ s) → x ≡ y
same_ok x y h = cc

count_first : (low high : ℕ) → high < 10 ^ 10 → (ws : List Word) (x : ℕ × List Word) → first_as (count_in low high) ws ≡ Ok x
    → Back (count_in low high) (decimal x.0) x.0
count_first low high fits ws x h = first_back (count_in low high) (λ n. decimal n) (count_back low high fits) ws x h

color_back : (ws : List Word) (x : Rgba × List Word) → color ws ≡ Ok x → ReadsFront color (color_words x.0) x.0
unfolding color
color_back ws x h =
    let r = bind_ok (first_as (count_in 0 255) ws) _ x h in
    let g = bind_ok (first_as (count_in 0 255) r.0.1) _ x r.2 in
    let b = bind_ok (first_as (count_in 0 255) g.0.1) _ x g.2 in
    let a = bind_ok (first_as (count_in 0 255) b.0.1) _ x b.2 in
    let rb = count_first 0 255 (omega arith) ws r.0 r.1 in
    let gb = count_first 0 255 (omega arith) r.0.1 g.0 g.1 in
    let bb = count_first 0 255 (omega arith) g.0.1 b.0 b.1 in
    let ab = count_first 0 255 (omega arith) b.0.1 a.0 a.1 in
    let c : Rgba = record { r = r.0.0; g = g.0.0; b = b.0.0; a = a.0.0 } in
    let is : c ≡ x.0 = ap (λ (y : Rgba × List Word). y.0) (same_ok (c, a.0.1) x a.2) in
    subst (λ (y : Rgba). ReadsFront color (color_words y) y) is (record {
      reads = λ rest. rw (rb.reads, gb.reads, bb.reads, ab.reads) refl;
      clean = rw (rb.clean, gb.clean, bb.clean, ab.clean) refl;
    })

-- rows of pixels

-- a test that passes at each number below another
abbrev every : (ℕ → Bool) → ℕ → Bool
every p zero = true
every p (suc n) = p n && every p n

every_below : (p : ℕ → Bool) (n k : ℕ) → every p n ≡ true → k < n → p k ≡ true
every_below p zero k all small = absurd (omega arith)
every_below p (suc n) k all small =
    let parts = and_parts (p n) (every p n) all in
    elim (k == n) as (λ t. (k == n) ≡ t → p k ≡ true) [
      | true ↦ λ same. subst (λ (m : ℕ). p m ≡ true) (sym (eqb-true k n same)) parts.0
      | false ↦ λ other. every_below p n k parts.1 (grind (arith, nat_tests, other, small))
    ] refl

abbrev is_digit_of : ℕ → Option ℕ → Bool
is_digit_of k None = false
is_digit_of k (Some m) = m == k

digit_found : (k : ℕ) (o : Option ℕ) → is_digit_of k o ≡ true → o ≡ Some k
digit_found k None h = absurd cc
digit_found k (Some m) h = ap (λ (n : ℕ). Some n) (eqb-true m k h)

digit_again : (k : ℕ) → k < 16 → hex_digit (slice_index hex_digits k) ≡ Some k
digit_again k small =
    digit_found k (hex_digit (slice_index hex_digits k))
    (every_below (λ n. is_digit_of n (hex_digit (slice_index hex_digits n))) 16 k refl small)

digit_clean : (k : ℕ) → k < 16 → is_clean_byte (slice_index hex_digits k) ≡ true
digit_clean k small = every_below (λ n. is_clean_byte (slice_index hex_digits n)) 16 k refl small

digit_small : (b k : ℕ) → hex_digit b ≡ Some k → k < 16
digit_small b k h =
    elim (is_digit b) as (λ t. is_digit b ≡ t → (if t then Some (b - byte "0") else (if nat_le (byte "a") b && nat_le b (byte "f")
    then Some (b - byte "a" + 10) else (if nat_le (byte "A") b && nat_le b (byte "F") then Some (b - byte "A" + 10) else None))) ≡ Some k
    → k < 16) [
      | true ↦ λ yes same. (let is : b - byte "0" ≡ k = cc in omega (arith, leb-true b 57 (and_parts (nat_le 48 b) (nat_le b 57) yes).1))
      | false ↦ λ isnt same. letter (nat_le (byte "a") b && nat_le b (byte "f")) refl same
    ] refl h
  where
    capital : (t : Bool) → (nat_le (byte "A") b && nat_le b (byte "F")) ≡ t
        → (if t then Some (b - byte "A" + 10) else None) ≡ Some k → k < 16
    capital false isnt same = absurd cc
    capital true is_in same =
        let is : b - byte "A" + 10 ≡ k = cc in omega (arith, leb-true b 70 (and_parts (nat_le 65 b) (nat_le b 70) is_in).1)

    letter : (t : Bool) → (nat_le (byte "a") b && nat_le b (byte "f")) ≡ t → (if t then Some (b - byte "a" + 10)
        else (if nat_le (byte "A") b && nat_le b (byte "F") then Some (b - byte "A" + 10) else None)) ≡ Some k → k < 16
    letter false isnt same = capital (nat_le (byte "A") b && nat_le b (byte "F")) refl same
    letter true is_in same =
        let is : b - byte "a" + 10 ≡ k = cc in omega (arith, leb-true b 102 (and_parts (nat_le 97 b) (nat_le b 102) is_in).1)

byte_again : (n : ℕ) → n < 256 → hex_byte (slice_index hex_digits (n / 16)) (slice_index hex_digits (n % 16)) ≡ Ok n
unfolding hex_byte
byte_again n small =
    let high : n / 16 < 16 = omega arith in
    let low : n % 16 < 16 = omega arith in
    let whole : n / 16 * 16 + n % 16 ≡ n = omega arith in
    rw (digit_again (n / 16) high, digit_again (n % 16) low) (ap (λ (m : ℕ). Ok m) whole)

byte_small : (high low n : ℕ) → hex_byte high low ≡ Ok n → n < 256
unfolding hex_byte
byte_small high low n e =
    let h = bind_ok (found_or rule.Word (hex_digit high)) _ n e in
    let l = bind_ok (found_or rule.Word (hex_digit low)) _ n h.2 in
    let hs = digit_small high h.0 (found_ok rule.Word (hex_digit high) h.0 h.1) in
    let ls = digit_small low l.0 (found_ok rule.Word (hex_digit low) l.0 l.1) in
    let is : h.0 * 16 + l.0 ≡ n = same_ok (h.0 * 16 + l.0) n l.2 in
    omega arith

byte_clean : (n : ℕ) → n < 256 → list_all is_clean_byte (hex_byte_word n) ≡ true
byte_clean n small =
    let high : n / 16 < 16 = omega arith in
    let low : n % 16 < 16 = omega arith in
    rw (digit_clean (n / 16) high, digit_clean (n % 16) low) refl

-- a pixel whose channels are bytes
record IsPixel (c : Rgba) : Type 0 where
  r : c.r < 256
  g : c.g < 256
  b : c.b < 256
  a : c.a < 256

pixel_small : (digits : List ℕ) (c : Rgba) → hex_pixel digits ≡ Ok c → IsPixel c
unfolding hex_pixel
pixel_small digits c h =
    let r = bind_ok (hex_byte (slice_index digits 0) (slice_index digits 1)) _ c h in
    let g = bind_ok (hex_byte (slice_index digits 2) (slice_index digits 3)) _ c r.2 in
    let b = bind_ok (hex_byte (slice_index digits 4) (slice_index digits 5)) _ c g.2 in
    let a = bind_ok (hex_byte (slice_index digits 6) (slice_index digits 7)) _ c b.2 in
    let is : record { r = r.0; g = g.0; b = b.0; a = a.0 } ≡ c = same_ok (record { r = r.0; g = g.0; b = b.0; a = a.0 }) c a.2 in
    subst IsPixel is (record {
      r = byte_small (slice_index digits 0) (slice_index digits 1) r.0 r.1;
      g = byte_small (slice_index digits 2) (slice_index digits 3) g.0 g.1;
      b = byte_small (slice_index digits 4) (slice_index digits 5) b.0 b.1;
      a = byte_small (slice_index digits 6) (slice_index digits 7) a.0 a.1;
    })

pixel_again : (c : Rgba) → IsPixel c → hex_pixel (hex_pixel_word c) ≡ Ok c
unfolding hex_pixel
pixel_again c is = rw (byte_again c.r is.r, byte_again c.g is.g, byte_again c.b is.b, byte_again c.a is.a) refl

pixel_clean : (c : Rgba) → IsPixel c → list_all is_clean_byte (hex_pixel_word c) ≡ true
pixel_clean c is =
    all_both is_clean_byte (hex_byte_word c.r ++ hex_byte_word c.g ++ hex_byte_word c.b) (hex_byte_word c.a)
    (all_both is_clean_byte (hex_byte_word c.r ++ hex_byte_word c.g) (hex_byte_word c.b)
    (all_both is_clean_byte (hex_byte_word c.r) (hex_byte_word c.g) (byte_clean c.r is.r) (byte_clean c.g is.g)) (byte_clean c.b is.b))
    (byte_clean c.a is.a)

-- the digits of pixels that were read
record PixelsBack (pixels : List Rgba) (count : ℕ) : Type 0 where
  reads : hex_pixels (flat_map hex_pixel_word pixels) ≡ Ok pixels
  clean : list_all is_clean_byte (flat_map hex_pixel_word pixels) ≡ true
  long : length (flat_map hex_pixel_word pixels) ≡ count

pixels_back : (w : Word) (pixels : List Rgba) → hex_pixels w ≡ Ok pixels → PixelsBack pixels (length w)
unfolding hex_pixels
pixels_back [] pixels h =
    let none : [] ≡ pixels = cc in
    subst (λ (ps : List Rgba). PixelsBack ps 0) none (record { reads = refl; clean = refl; long = refl })
pixels_back (a ∷ b ∷ c ∷ d ∷ e ∷ f ∷ g ∷ i ∷ rest) pixels h =
    let p = bind_ok (hex_pixel (a ∷ b ∷ c ∷ d ∷ e ∷ f ∷ g ∷ i ∷ [])) _ pixels h in
    let ps = bind_ok (hex_pixels rest) _ pixels p.2 in
    let all : p.0 ∷ ps.0 ≡ pixels = cc in
    let behind = pixels_back rest ps.0 ps.1 in
    let small = pixel_small (a ∷ b ∷ c ∷ d ∷ e ∷ f ∷ g ∷ i ∷ []) p.0 p.1 in
    subst (λ (xs : List Rgba). PixelsBack xs (length (a ∷ b ∷ c ∷ d ∷ e ∷ f ∷ g ∷ i ∷ rest))) all (record {
      reads = rw (pixel_again p.0 small, behind.reads) refl;
      clean = all_both is_clean_byte (hex_pixel_word p.0) (flat_map hex_pixel_word ps.0) (pixel_clean p.0 small) behind.clean;
      long = omega (arith, behind.long);
    })
pixels_back (a ∷ []) pixels h = absurd cc
pixels_back (a ∷ b ∷ []) pixels h = absurd cc
pixels_back (a ∷ b ∷ c ∷ []) pixels h = absurd cc
pixels_back (a ∷ b ∷ c ∷ d ∷ []) pixels h = absurd cc
pixels_back (a ∷ b ∷ c ∷ d ∷ e ∷ []) pixels h = absurd cc
pixels_back (a ∷ b ∷ c ∷ d ∷ e ∷ f ∷ []) pixels h = absurd cc
pixels_back (a ∷ b ∷ c ∷ d ∷ e ∷ f ∷ g ∷ []) pixels h = absurd cc

-- paints

-- a paint whose words are read as it
pub record PaintBack (p : Paint) : Type 0 where
  pub reads : paint_of (paint_words p) ≡ Ok p
  pub clean : list_all is_clean (paint_words p) ≡ true

paint_is : (p q : Paint) → PaintBack p → (let r : Result Paint Rule = Ok p in let s : Result Paint Rule = Ok q in r ≡ s) → PaintBack q
paint_is p q back same = let is : p ≡ q = cc in subst PaintBack is back

fill_back : (ws : List Word) (p : Paint) → fill ws ≡ Ok p → PaintBack p
unfolding fill paint_of
fill_back ws p h =
    let c = bind_ok (color ws) (λ c. Ok (paint.Fill c.0)) p h in
    let cb = color_back ws c.0 c.1 in
    paint_is (paint.Fill c.0.0) p (record { reads = rw (cb.reads []) refl; clean = cb.clean }) c.2

rectangle_back : (ws : List Word) (p : Paint) → rectangle ws ≡ Ok p → PaintBack p
unfolding rectangle paint_of
rectangle_back ws p hp =
    let place : Word → Option ℤ = integer_in least_coordinate most_coordinate in
    let side : Word → Option ℕ = count_in 0 most_extent in
    let x = bind_ok (first_as place ws) _ p hp in
    let y = bind_ok (first_as place x.0.1) _ p x.2 in
    let w = bind_ok (first_as side y.0.1) _ p y.2 in
    let h = bind_ok (first_as side w.0.1) _ p w.2 in
    let c = bind_ok (color h.0.1) _ p h.2 in
    let xb = first_back place integer_word (integer_in_back least_coordinate most_coordinate) ws x.0 x.1 in
    let yb = first_back place integer_word (integer_in_back least_coordinate most_coordinate) x.0.1 y.0 y.1 in
    let wb = count_first 0 most_extent (omega arith) y.0.1 w.0 w.1 in
    let hb = count_first 0 most_extent (omega arith) w.0.1 h.0 h.1 in
    let cb = color_back h.0.1 c.0 c.1 in
    paint_is (paint.Rectangle (record { x = x.0.0; y = y.0.0; w = w.0.0; h = h.0.0 }) c.0.0) p (record {
      reads = rw (xb.reads, yb.reads, wb.reads, hb.reads, cb.reads []) refl;
      clean = rw (xb.clean, yb.clean, wb.clean, hb.clean) cb.clean;
    }) c.2

checker_back : (ws : List Word) (p : Paint) → checker ws ≡ Ok p → PaintBack p
unfolding checker paint_of
checker_back ws p hp =
    let n = bind_ok (first_as (count_in 1 MOST_SIDE) ws) _ p hp in
    let a = bind_ok (color n.0.1) _ p n.2 in
    let b = bind_ok (color a.0.1) _ p a.2 in
    let nb = count_first 1 MOST_SIDE (omega arith) ws n.0 n.1 in
    let ab = color_back n.0.1 a.0 a.1 in
    let bb = color_back a.0.1 b.0 b.1 in
    paint_is (paint.Checker n.0.0 a.0.0 b.0.0) p (record {
      reads = rw (nb.reads, ab.reads (color_words b.0.0), bb.reads []) refl;
      clean = rw nb.clean (all_both is_clean (color_words a.0.0) (color_words b.0.0) ab.clean bb.clean);
    }) b.2

ramp_back : (ws : List Word) (p : Paint) → ramp ws ≡ Ok p → PaintBack p
unfolding ramp paint_of
ramp_back ws p hp =
    let a = bind_ok (color ws) _ p hp in
    let b = bind_ok (color a.0.1) _ p a.2 in
    let ab = color_back ws a.0 a.1 in
    let bb = color_back a.0.1 b.0 b.1 in
    paint_is (paint.Ramp a.0.0 b.0.0) p (record {
      reads = rw (ab.reads (color_words b.0.0), bb.reads []) refl;
      clean = all_both is_clean (color_words a.0.0) (color_words b.0.0) ab.clean bb.clean;
    }) b.2

row_words_back : (ws : List Word) (p : Paint) → AreWords ws → row ws ≡ Ok p → PaintBack p
unfolding row paint_of
row_words_back [] p words h = absurd cc
row_words_back (v ∷ ws) p words h =
    let y = bind_ok (first_as row_number (v ∷ ws)) _ p h in
    let parts = first_parts row_number v ws y.0 y.1 in
    let hex = bind_ok (first y.0.1) _ p y.2 in
    let few = bind_ok (refuse_if rule.Word (nat_lt ROW_DIGITS (length hex.0.0))) _ p hex.2 in
    let pixels = bind_ok (hex_pixels hex.0.0) _ p few.2 in
    let some : 1 ≤ length hex.0.0 = first_long ws hex.0 (and_parts (is_word v) (list_all is_word ws) words).1 (ap first (sym parts.1)
    ∙ hex.1) in
    let yb = row_back v y.0.0 parts.0 in
    let back = pixels_back hex.0.0 pixels.0 pixels.1 in
    let digits : Word = flat_map hex_pixel_word pixels.0 in
    let short : nat_lt ROW_DIGITS (length digits) ≡ false =
    ap (nat_lt ROW_DIGITS) back.long ∙ passed rule.Word (nat_lt ROW_DIGITS (length hex.0.0)) few.0 few.1 in
    let least : 0 < length digits = omega (arith, back.long, some) in
    paint_is (paint.Row y.0.0 pixels.0) p (record {
      reads = rw (yb.reads, short, back.reads) refl;
      clean = rw (yb.clean, some_letter digits least, back.clean) refl;
    }) pixels.2
  where
    some_letter : (w : Word) → 0 < length w → is_word w ≡ true
    some_letter [] none = absurd (omega arith)
    some_letter (b ∷ bs) none = refl

painted_back : (f : PaintForm) (ws : List Word) (p : Paint) → AreWords ws → painted f ws ≡ Ok p → PaintBack p
painted_back form.Fill ws p words h = fill_back ws p h
painted_back form.Rectangle ws p words h = rectangle_back ws p h
painted_back form.Checker ws p words h = checker_back ws p h
painted_back form.Ramp ws p words h = ramp_back ws p h
painted_back form.Row ws p words h = row_words_back ws p words h

pub paint_back : (ws : List Word) (p : Paint) → AreWords ws → paint_of ws ≡ Ok p → PaintBack p
unfolding paint_of
paint_back [] p words h = absurd cc
paint_back (w ∷ ws) p words h =
    let f = bind_ok (first_as (look_up paint_forms) (w ∷ ws)) _ p h in
    let parts = first_parts (look_up paint_forms) w ws f.0 f.1 in
    let all = bind_ok (counted (paint_count f.0.0) f.0.1) _ p f.2 in
    painted_back f.0.0 f.0.1 p (subst (λ (us : List Word). AreWords us) (sym parts.1)
    (and_parts (is_word w) (list_all is_word ws) words).1) all.2
