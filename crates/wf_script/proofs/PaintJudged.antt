-- The words of paints break the rules as the table says.
use Rattle.std.proofs.Common.{◌≡◌, ℕ, ◌+◌, ◌*◌, Bool, true, false, not, ◌&&◌, ◌||◌, ◌==◌, nat_lt, List, [], ◌∷◌, ◌++◌}
use Rattle.std.proofs.Common.{length}
use Rattle.std.proofs.Common.{Option, Some, None, Result, Ok, refl, pos, negsuc}
use Rattle.std.specs.Prelude.{if◌then◌else◌, is_some}
use Rattle.std.specs.Str.{bytes_eq}
use Rattle.std.proofs.lemmas.Bool.{and_parts}
use Rattle.std.specs.List.{list_all}
use Rattle.wf_words.specs.Refusals.{◌>>=◌, refuse_if, found_or}
use Rattle.wf_pixel.specs.declared.Rect.{Rect}
use Rattle.wf_pixel.specs.declared.Rgba.{Rgba}
use Rattle.wf_image.specs.declared.paint.Paint.TheVariants as paint
use Rattle.wf_script.specs.declared.paint_form.PaintForm.{PaintForm}
use Rattle.wf_script.specs.declared.paint_form.PaintForm.TheVariants as form
use Rattle.wf_script.specs.declared.rule.Rule.{Rule}
use Rattle.wf_script.specs.declared.rule.Rule.TheVariants as rule
use Rattle.wf_script.specs.Breaches.{Kind, in_eights, off_kinds, paint_kinds}
use Rattle.wf_script.specs.Breaches.{used_names}
use Rattle.wf_script.specs.PaintWords.{checker, color, fill, hex_byte, hex_digit, hex_pixel, hex_pixels, paint_count}
use Rattle.wf_script.specs.PaintWords.{painted, ramp, rectangle, row, row_number}
use Rattle.wf_script.specs.Pick.{counted}
use Rattle.wf_script.specs.Words.{Word, count_in, integer_in, none_word}
use Rattle.wf_script.proofs.Judged.{Judged, WordJudged, counted_step, exactly}
use Rattle.wf_script.proofs.Judged.{made_of, step, step_in}
use Rattle.wf_script.proofs.Judged.{word_judged_at}
use Rattle.wf_pixel.specs.declared.TheConstants.{MOST_SIDE}
use Rattle.wf_script.specs.declared.TheConstants.{ROW_DIGITS}
use Rattle.wf_pixel.specs.Choice.{least_coordinate, most_coordinate, most_extent}

-- nothing more is asked of a paint
abbrev pub Any : {A : Type 0} → A → Type 0
Any x = Unit {0}

-- a colour, and what is behind it
color_step : {A : Type 0} (r g b a : Word) (rest : List Word) (h : Rgba × List Word → Result A Rule) (more : Bool)
    → ((c : Rgba) → WordJudged (Any {A = A}) (h (c, rest)) more)
    → WordJudged (Any {A = A}) (color (r ∷ g ∷ b ∷ a ∷ rest) >>= h)
    (not (is_some (count_in 0 255 r)) || (not (is_some (count_in 0 255 g)) || (not (is_some (count_in 0 255 b))
    || (not (is_some (count_in 0 255 a)) || more))))
unfolding color
color_step {A = A} r g b a rest h more others =
    let k : Word → Option ℕ = count_in 0 255 in
    step_in (Any {A = A}) k r (g ∷ b ∷ a ∷ rest) _ h _ (λ cr _. step_in (Any {A = A}) k g (b ∷ a ∷ rest) _ h _ (λ cg _.
    step_in (Any {A = A}) k b (a ∷ rest) _ h _ (λ cb _. step_in (Any {A = A}) k a rest _ h more
    (λ ca _. others (record { r = cr; g = cg; b = cb; a = ca })))))

fill_judged : (ws : List Word) → (length ws == 4) ≡ true → WordJudged Any (fill ws) (off_kinds (paint_kinds form.Fill) ws)
unfolding fill
fill_judged = exactly 4 (λ ws. WordJudged Any (fill ws) (off_kinds (paint_kinds form.Fill) ws)) (λ r g b a.
    color_step r g b a [] (λ c. Ok (paint.Fill c.0)) false (λ c. (paint.Fill c, refl, tt)))

rectangle_judged : (ws : List Word) → (length ws == 8) ≡ true → WordJudged Any (rectangle ws) (off_kinds (paint_kinds form.Rectangle) ws)
unfolding rectangle
rectangle_judged = exactly 8 (λ ws. WordJudged Any (rectangle ws) (off_kinds (paint_kinds form.Rectangle) ws)) (λ x y w h r g b a.
    step Any (integer_in least_coordinate most_coordinate) x (y ∷ w ∷ h ∷ r ∷ g ∷ b ∷ a ∷ []) _ _ (λ nx _.
    step Any (integer_in least_coordinate most_coordinate) y (w ∷ h ∷ r ∷ g ∷ b ∷ a ∷ []) _ _ (λ ny _.
    step Any (count_in 0 most_extent) w (h ∷ r ∷ g ∷ b ∷ a ∷ []) _ _ (λ nw _.
    step Any (count_in 0 most_extent) h (r ∷ g ∷ b ∷ a ∷ []) _ _ (λ nh _. (
    let area : Rect = record { x = nx; y = ny; w = nw; h = nh } in
    color_step r g b a [] (λ c. Ok (paint.Rectangle area c.0)) false (λ c. (paint.Rectangle area c, refl, tt))))))))

checker_judged : (ws : List Word) → (length ws == 9) ≡ true → WordJudged Any (checker ws) (off_kinds (paint_kinds form.Checker) ws)
unfolding checker
checker_judged = exactly 9 (λ ws. WordJudged Any (checker ws) (off_kinds (paint_kinds form.Checker) ws)) (λ n r g b a r2 g2 b2 a2.
    step Any (count_in 1 MOST_SIDE) n (r ∷ g ∷ b ∷ a ∷ r2 ∷ g2 ∷ b2 ∷ a2 ∷ []) _ _ (λ k _.
    color_step r g b a (r2 ∷ g2 ∷ b2 ∷ a2 ∷ []) (λ c. color c.1 >>= (λ d. Ok (paint.Checker k c.0 d.0))) _ (λ c.
    color_step r2 g2 b2 a2 [] (λ d. Ok (paint.Checker k c d.0)) false (λ d. (paint.Checker k c d, refl, tt)))))

ramp_judged : (ws : List Word) → (length ws == 8) ≡ true → WordJudged Any (ramp ws) (off_kinds (paint_kinds form.Ramp) ws)
unfolding ramp
ramp_judged = exactly 8 (λ ws. WordJudged Any (ramp ws) (off_kinds (paint_kinds form.Ramp) ws)) (λ r g b a r2 g2 b2 a2.
    color_step r g b a (r2 ∷ g2 ∷ b2 ∷ a2 ∷ []) (λ c. color c.1 >>= (λ d. Ok (paint.Ramp c.0 d.0))) _ (λ c.
    color_step r2 g2 b2 a2 [] (λ d. Ok (paint.Ramp c d.0)) false (λ d. (paint.Ramp c d, refl, tt))))

-- pixels

byte_in : {A B : Type 0} (high low : ℕ) (f : ℕ → Result B Rule) (h : B → Result A Rule) (more : Bool)
    → ((n : ℕ) → WordJudged (Any {A = A}) (f n >>= h) more)
    → WordJudged (Any {A = A}) ((hex_byte high low >>= f) >>= h)
    (not (is_some (hex_digit high)) || (not (is_some (hex_digit low)) || more))
unfolding hex_byte
byte_in {A = A} high low f h more others = of_digits (hex_digit high) (hex_digit low)
  where
    of_digits : (o p : Option ℕ)
        → WordJudged (Any {A = A}) (((found_or rule.Word o >>= (λ x. found_or rule.Word p >>= (λ y. Ok (x * 16 + y)))) >>= f) >>= h)
        (not (is_some o) || (not (is_some p) || more))
    of_digits None p = refl
    of_digits (Some x) None = refl
    of_digits (Some x) (Some y) = others (x * 16 + y)

-- a test of all digits as one of each
each_digit : (a b c d e f g h more : Bool)
    → (not a || (not b || (not c || (not d || (not e || (not f || (not g || (not h || not more))))))))
    ≡ not ((a && (b && (c && (d && (e && (f && (g && (h && true)))))))) && more)
each_digit false b c d e f g h more = refl
each_digit true false c d e f g h more = refl
each_digit true true false d e f g h more = refl
each_digit true true true false e f g h more = refl
each_digit true true true true false f g h more = refl
each_digit true true true true true false g h more = refl
each_digit true true true true true true false h more = refl
each_digit true true true true true true true false more = refl
each_digit true true true true true true true true more = refl

pixels_judged : (w : Word) → WordJudged Any (hex_pixels w) (not (in_eights w))
unfolding hex_pixels in_eights hex_pixel
pixels_judged [] = ([], refl, tt)
pixels_judged (a ∷ b ∷ c ∷ d ∷ e ∷ f ∷ g ∷ h ∷ rest) =
    word_judged_at Any (hex_pixels (a ∷ b ∷ c ∷ d ∷ e ∷ f ∷ g ∷ h ∷ rest)) _ _
    (each_digit (is_some (hex_digit a)) (is_some (hex_digit b)) (is_some (hex_digit c)) (is_some (hex_digit d)) (is_some (hex_digit e))
    (is_some (hex_digit f)) (is_some (hex_digit g)) (is_some (hex_digit h)) (in_eights rest))
    (byte_in a b _ _ _ (λ r. byte_in c d _ _ _ (λ g'. byte_in e f _ _ _ (λ b'. byte_in g h _ _ _ (λ a'.
    made_of Any Any (hex_pixels rest) _ (not (in_eights rest)) (pixels_judged rest) (λ ps _. (_, refl, tt)))))))
pixels_judged (a ∷ []) = refl
pixels_judged (a ∷ b ∷ []) = refl
pixels_judged (a ∷ b ∷ c ∷ []) = refl
pixels_judged (a ∷ b ∷ c ∷ d ∷ []) = refl
pixels_judged (a ∷ b ∷ c ∷ d ∷ e ∷ []) = refl
pixels_judged (a ∷ b ∷ c ∷ d ∷ e ∷ f ∷ []) = refl
pixels_judged (a ∷ b ∷ c ∷ d ∷ e ∷ f ∷ g ∷ []) = refl

or_false : (b : Bool) → b ≡ (b || false)
or_false true = refl
or_false false = refl

row_judged : (ws : List Word) → (length ws == 2) ≡ true → WordJudged Any (row ws) (off_kinds (paint_kinds form.Row) ws)
unfolding row
row_judged = exactly 2 (λ ws. WordJudged Any (row ws) (off_kinds (paint_kinds form.Row) ws)) (λ y hex.
    step Any row_number y (hex ∷ []) _ _ (λ n _. of_long n hex (nat_lt ROW_DIGITS (length hex))))
  where
    of_long : (n : ℕ) (hex : Word) (t : Bool)
        → WordJudged Any (refuse_if rule.Word t >>= (λ _. hex_pixels hex >>= (λ ps. Ok (paint.Row n ps)))) (not
        (not t && in_eights hex) || false)
    of_long n hex true = refl
    of_long n hex false =
        word_judged_at Any (hex_pixels hex >>= (λ ps. Ok (paint.Row n ps))) (not (in_eights hex)) (not (in_eights hex) || false)
        (or_false (not (in_eights hex)))
        (made_of Any Any (hex_pixels hex) _ (not (in_eights hex)) (pixels_judged hex) (λ ps _. (paint.Row n ps, refl, tt)))

painted_judged : (f : PaintForm) (ws : List Word) → (length ws == paint_count f) ≡ true
    → WordJudged Any (painted f ws) (off_kinds (paint_kinds f) ws)
painted_judged form.Fill ws e = fill_judged ws e
painted_judged form.Rectangle ws e = rectangle_judged ws e
painted_judged form.Checker ws e = checker_judged ws e
painted_judged form.Ramp ws e = ramp_judged ws e
painted_judged form.Row ws e = row_judged ws e

-- as many words as the table says
pub paint_length : (f : PaintForm) → length (paint_kinds f) ≡ paint_count f
paint_length form.Fill = refl
paint_length form.Rectangle = refl
paint_length form.Checker = refl
paint_length form.Ramp = refl
paint_length form.Row = refl

-- the words behind a paint's own
pub paint_known : (f : PaintForm) (ws : List Word)
    → Judged Any (counted (paint_count f) ws >>= (λ _. painted f ws)) (not (length ws == paint_count f)) (off_kinds (paint_kinds f) ws)
paint_known f ws = counted_step Any (paint_count f) ws (λ _. painted f ws) (off_kinds (paint_kinds f) ws) (painted_judged f ws)

-- words of paints use no names
no_names : (ks : List Kind) → list_all (λ k. not k.names) ks ≡ true → (ws : List Word) → used_names ks ws ≡ []
no_names [] none ws = refl
no_names (k ∷ ks) none [] = refl
no_names (k ∷ ks) none (w ∷ ws) =
    let parts = and_parts (not k.names) (list_all (λ j. not j.names) ks) none in
    of_kind k.names parts.0 (no_names ks parts.1 ws)
  where
    of_kind : (t : Bool) → not t ≡ true → used_names ks ws ≡ []
        → (if t && not (bytes_eq w none_word) then w ∷ [] else []) ++ used_names ks ws ≡ []
    of_kind true bad rest = absurd cc
    of_kind false fine rest = rest

pub paint_names : (f : PaintForm) (ws : List Word) → used_names (paint_kinds f) ws ≡ []
paint_names form.Fill ws = no_names (paint_kinds form.Fill) refl ws
paint_names form.Rectangle ws = no_names (paint_kinds form.Rectangle) refl ws
paint_names form.Checker ws = no_names (paint_kinds form.Checker) refl ws
paint_names form.Ramp ws = no_names (paint_kinds form.Ramp) refl ws
paint_names form.Row ws = no_names (paint_kinds form.Row) refl ws
