-- Paints that are read have numbers in their ranges.
use Rattle.std.proofs.Common.{◌≡◌, ◌∙◌, ℕ, ◌*◌, ◌≤◌, ◌<◌, true, nat_lt, nat_le, ℤ, pos, negsuc, List, [], ◌∷◌, length, Option, Some, None}
use Rattle.std.proofs.Common.{Result, Ok, refl, sym, ap, subst, arith}
use Rattle.std.specs.Prelude.{int_le, ◌-◌}
use Rattle.std.specs.List.{list_all}
use Rattle.std.specs.Option.{option_map}
use Rattle.std.proofs.lemmas.Bool.{and_from, and_parts, leb-true}
use Rattle.std.proofs.lemmas.Bool.Decides.{nat_tests}
use Rattle.wf_words.specs.Refusals.{refuse_if}
use Rattle.wf_words.specs.Whole.{count_of}
use Rattle.wf_pixel.specs.declared.TheConstants.{MOST_SIDE}
use Rattle.wf_pixel.specs.declared.Rgba.{Rgba}
use Rattle.wf_image.specs.declared.paint.Paint.{Paint}
use Rattle.wf_image.specs.declared.paint.Paint.TheVariants as paint
use Rattle.wf_image.specs.Paints.{is_paint}
use Rattle.wf_pixel.specs.Choice.{is_coordinate, least_coordinate, most_coordinate, most_extent}
use Rattle.wf_script.specs.declared.paint_form.PaintForm.{PaintForm}
use Rattle.wf_script.specs.declared.paint_form.PaintForm.TheVariants as paint_form
use Rattle.wf_script.specs.declared.rule.Rule.{Rule}
use Rattle.wf_script.specs.declared.rule.Rule.TheVariants as rule
use Rattle.wf_script.specs.PaintWords.{checker, color, paint_count, paint_forms, fill, hex_pixel, hex_pixels, paint_of, painted, ramp}
use Rattle.wf_script.specs.PaintWords.{rectangle, row, row_number}
use Rattle.wf_script.specs.Pick.{counted, first, first_as}
use Rattle.wf_script.specs.Words.{Word, is_word, count_in, integer_in, look_up}
use Rattle.wf_script.proofs.Steps.{AreWords, all_four, all_three, at_most, bind_ok, count_within, first_kind, first_long, first_parts}
use Rattle.wf_script.proofs.Steps.{integer_within, passed}
use Rattle.wf_pixel.specs.declared.TheConstants.{MOST_SIDE}
use Rattle.wf_script.specs.declared.TheConstants.{ROW_DIGITS}

-- paints in their ranges

paint_is : (p q : Paint) → is_paint p ≡ true → (let r : Result Paint Rule = Ok p in let s : Result Paint Rule = Ok q in r ≡ s)
    → is_paint q ≡ true
paint_is p q sound same = let is : p ≡ q = cc in subst (λ (x : Paint). is_paint x ≡ true) is sound

fill_sound : (ws : List Word) (p : Paint) → fill ws ≡ Ok p → is_paint p ≡ true
unfolding fill
fill_sound ws p h =
    let c = bind_ok (color ws) (λ c. Ok (paint.Fill c.0)) p h in
    paint_is (paint.Fill c.0.0) p refl c.2

rectangle_sound : (ws : List Word) (p : Paint) → rectangle ws ≡ Ok p → is_paint p ≡ true
unfolding rectangle
rectangle_sound ws p hp =
    let place : Word → Option ℤ = integer_in least_coordinate most_coordinate in
    let side : Word → Option ℕ = count_in 0 most_extent in
    let x = bind_ok (first_as place ws) _ p hp in
    let y = bind_ok (first_as place x.0.1) _ p x.2 in
    let w = bind_ok (first_as side y.0.1) _ p y.2 in
    let h = bind_ok (first_as side w.0.1) _ p w.2 in
    let c = bind_ok (color h.0.1) _ p h.2 in
    let fx = first_kind place ws x.0 x.1 in
    let fy = first_kind place x.0.1 y.0 y.1 in
    let fw = first_kind side y.0.1 w.0 w.1 in
    let fh = first_kind side w.0.1 h.0 h.1 in
    paint_is (paint.Rectangle (record { x = x.0.0; y = y.0.0; w = w.0.0; h = h.0.0 }) c.0.0) p
    (all_four (is_coordinate x.0.0) (is_coordinate y.0.0) (nat_le w.0.0 most_extent) (nat_le h.0.0 most_extent)
    (integer_within least_coordinate most_coordinate fx.0 x.0.0 fx.1) (integer_within least_coordinate most_coordinate fy.0 y.0.0 fy.1)
    (at_most w.0.0 most_extent (count_within 0 most_extent fw.0 w.0.0 fw.1).1)
    (at_most h.0.0 most_extent (count_within 0 most_extent fh.0 h.0.0 fh.1).1))
    c.2

checker_sound : (ws : List Word) (p : Paint) → checker ws ≡ Ok p → is_paint p ≡ true
unfolding checker
checker_sound ws p hp =
    let side : Word → Option ℕ = count_in 1 MOST_SIDE in
    let n = bind_ok (first_as side ws) _ p hp in
    let a = bind_ok (color n.0.1) _ p n.2 in
    let b = bind_ok (color a.0.1) _ p a.2 in
    let fn = first_kind side ws n.0 n.1 in
    let within = count_within 1 MOST_SIDE fn.0 n.0.0 fn.1 in
    paint_is (paint.Checker n.0.0 a.0.0 b.0.0) p (and_from (nat_le 1 n.0.0) (nat_le n.0.0 MOST_SIDE) (at_most 1 n.0.0 within.0)
    (at_most n.0.0 MOST_SIDE within.1)) b.2

ramp_sound : (ws : List Word) (p : Paint) → ramp ws ≡ Ok p → is_paint p ≡ true
unfolding ramp
ramp_sound ws p hp =
    let a = bind_ok (color ws) _ p hp in
    let b = bind_ok (color a.0.1) _ p a.2 in
    paint_is (paint.Ramp a.0.0 b.0.0) p refl b.2

-- a pixel for each 8 digits
pixels_count : (w : Word) (pixels : List Rgba) → hex_pixels w ≡ Ok pixels → length w ≡ 8 * length pixels
unfolding hex_pixels
pixels_count [] pixels h = let none : pixels ≡ [] = cc in rw none refl
pixels_count (a ∷ b ∷ c ∷ d ∷ e ∷ f ∷ g ∷ i ∷ rest) pixels h =
    let p = bind_ok (hex_pixel (a ∷ b ∷ c ∷ d ∷ e ∷ f ∷ g ∷ i ∷ [])) _ pixels h in
    let ps = bind_ok (hex_pixels rest) _ pixels p.2 in
    let all : p.0 ∷ ps.0 ≡ pixels = cc in
    omega (arith, pixels_count rest ps.0 ps.1, ap length all)
pixels_count (a ∷ []) pixels h = absurd cc
pixels_count (a ∷ b ∷ []) pixels h = absurd cc
pixels_count (a ∷ b ∷ c ∷ []) pixels h = absurd cc
pixels_count (a ∷ b ∷ c ∷ d ∷ []) pixels h = absurd cc
pixels_count (a ∷ b ∷ c ∷ d ∷ e ∷ []) pixels h = absurd cc
pixels_count (a ∷ b ∷ c ∷ d ∷ e ∷ f ∷ []) pixels h = absurd cc
pixels_count (a ∷ b ∷ c ∷ d ∷ e ∷ f ∷ g ∷ []) pixels h = absurd cc

row_within : (w : Word) (n : ℕ) → row_number w ≡ Some n → n < MOST_SIDE
unfolding row_number
row_within w n h = of_integer (integer_in (pos 0) (pos (MOST_SIDE - 1)) w) refl h
  where
    of_integer : (o : Option ℤ) → integer_in (pos 0) (pos (MOST_SIDE - 1)) w ≡ o → option_map count_of o ≡ Some n → n < MOST_SIDE
    of_integer None is h = absurd cc
    of_integer (Some (pos k)) is h =
        let same : k ≡ n = cc in
        let within = integer_within (pos 0) (pos (MOST_SIDE - 1)) w (pos k) is in
        omega (arith, leb-true k (MOST_SIDE - 1) (and_parts (int_le (pos 0) (pos k)) (int_le (pos k) (pos (MOST_SIDE - 1))) within).1)
    of_integer (Some (negsuc k)) is h = let same : 0 ≡ n = cc in omega arith

row_sound : (ws : List Word) (p : Paint) → AreWords ws → row ws ≡ Ok p → is_paint p ≡ true
unfolding row
row_sound [] p words h = absurd cc
row_sound (v ∷ ws) p words h =
    let y = bind_ok (first_as row_number (v ∷ ws)) _ p h in
    let parts = first_parts row_number v ws y.0 y.1 in
    let hex = bind_ok (first y.0.1) _ p y.2 in
    let few = bind_ok (refuse_if rule.Word (nat_lt ROW_DIGITS (length hex.0.0))) _ p hex.2 in
    let pixels = bind_ok (hex_pixels hex.0.0) _ p few.2 in
    let low : 1 ≤ length hex.0.0 = first_long ws hex.0 (and_parts (is_word v) (list_all is_word ws) words).1 (ap first (sym parts.1)
    ∙ hex.1) in
    let count = pixels_count hex.0.0 pixels.0 pixels.1 in
    let short : length hex.0.0 ≤ ROW_DIGITS = grind (arith, nat_tests, passed rule.Word (nat_lt ROW_DIGITS (length hex.0.0)) few.0 few.1) in
    let some : 1 ≤ length pixels.0 = omega arith in
    let most : length pixels.0 ≤ MOST_SIDE = omega arith in
    let under : nat_lt y.0.0 MOST_SIDE ≡ true = grind (arith, nat_tests, row_within v y.0.0 parts.0) in
    paint_is (paint.Row y.0.0 pixels.0) p
    (all_three (nat_lt y.0.0 MOST_SIDE) (nat_le 1 (length pixels.0)) (nat_le (length pixels.0) MOST_SIDE)
    under (at_most 1 (length pixels.0) some) (at_most (length pixels.0) MOST_SIDE most))
    pixels.2

-- the paint of a form, and of words
painted_sound : (f : PaintForm) (ws : List Word) (p : Paint) → AreWords ws → painted f ws ≡ Ok p → is_paint p ≡ true
painted_sound paint_form.Fill ws p words h = fill_sound ws p h
painted_sound paint_form.Rectangle ws p words h = rectangle_sound ws p h
painted_sound paint_form.Checker ws p words h = checker_sound ws p h
painted_sound paint_form.Ramp ws p words h = ramp_sound ws p h
painted_sound paint_form.Row ws p words h = row_sound ws p words h

pub paint_sound : (ws : List Word) (p : Paint) → AreWords ws → paint_of ws ≡ Ok p → is_paint p ≡ true
unfolding paint_of
paint_sound [] p words h = absurd cc
paint_sound (w ∷ ws) p words h =
    let f = bind_ok (first_as (look_up paint_forms) (w ∷ ws)) _ p h in
    let parts = first_parts (look_up paint_forms) w ws f.0 f.1 in
    let all = bind_ok (counted (paint_count f.0.0) f.0.1) _ p f.2 in
    painted_sound f.0.0 f.0.1 p (subst (λ (us : List Word). AreWords us) (sym parts.1)
    (and_parts (is_word w) (list_all is_word ws) words).1) all.2
