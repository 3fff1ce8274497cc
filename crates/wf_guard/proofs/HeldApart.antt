-- Write buffers that are held, each of another stream.
use Rattle.std.proofs.Common.{◌≡◌, ◌∙◌, ℕ, zero, suc, Bool, true, false, ◌==◌, ◌||◌, List, [], ◌∷◌, ◌++◌, Option, Some, None, ◌⊎◌, inl, inr}
use Rattle.std.proofs.Common.{option_map, refl, sym, ap, subst}
use Rattle.std.proofs.lemmas.Bool.{both_ways, eq-eqb, eqb-false, eqb-true, false_from_ne_true, ne_eqb, or_parts}
use Rattle.std.proofs.lemmas.List.Folds.{list_any-append}
use Rattle.std.specs.Prelude.{find, option_and_then, slice_get}
use Rattle.std.specs.List.{list_any, position, remove}
use Rattle.wf_words.specs.Found.{any_at, any_by, get_position}
use Rattle.wf_image.specs.declared.canvas.Canvas.{Canvas}
use Rattle.wf_host.specs.Held.{canvas_of, without}
use Rattle.wf_host.specs.declared.canvases.Held.{Held}

-- what is held, by the numbers of its streams

abbrev pub is_held : ℕ → List Held → Bool
is_held n held = list_any (λ h. h.canvas.stream == n) held

-- no two are of one stream
abbrev pub AllApart : List Held → Type 0
AllApart [] = Unit {0}
AllApart (h ∷ hs) = (is_held h.canvas.stream hs ≡ false) × AllApart hs

pub in_more : (n : ℕ) (h : Held) (hs : List Held) → is_held n (hs ++ h ∷ []) ≡ true → (is_held n hs ≡ true) ⊎ (n ≡ h.canvas.stream)
in_more n h hs held =
    by_tests (is_held n hs) refl (h.canvas.stream == n) refl
    (sym (list_any-append (λ (x : Held). x.canvas.stream == n) hs (h ∷ [])) ∙ held)
  where
    by_tests : (b : Bool) → is_held n hs ≡ b → (d : Bool) → (h.canvas.stream == n) ≡ d
        → (is_held n hs || ((h.canvas.stream == n) || false)) ≡ true
        → (is_held n hs ≡ true) ⊎ (n ≡ h.canvas.stream)
    by_tests true is d here either = inl is
    by_tests false is true here either = inr (sym (eqb-true h.canvas.stream n here))
    by_tests false is false other either = absurd (let no : false ≡ true = rw (is, other) at either in cc)

pub none_more : (n : ℕ) (h : Held) (hs : List Held) → is_held n hs ≡ false → (h.canvas.stream == n) ≡ false
    → is_held n (hs ++ h ∷ []) ≡ false
none_more n h hs none other =
    list_any-append (λ (x : Held). x.canvas.stream == n) hs (h ∷ [])
    ∙ ap (λ b. b || ((h.canvas.stream == n) || false)) none ∙ ap (λ b. b || false) other

-- two numbers are apart either way round
pub other_way : (n k : ℕ) → (n == k) ≡ false → (k == n) ≡ false
other_way n k apart = ne_eqb k n (λ same. eqb-false n k apart (sym same))

pub apart_more : (h : Held) (hs : List Held) → AllApart hs → is_held h.canvas.stream hs ≡ false → AllApart (hs ++ h ∷ [])
apart_more h [] apart none = (refl, tt)
apart_more h (x ∷ xs) apart none =
    let parts = or_parts (x.canvas.stream == h.canvas.stream) (is_held h.canvas.stream xs) none in (
      none_more x.canvas.stream h xs apart.0 (other_way x.canvas.stream h.canvas.stream parts.0),
      apart_more h xs apart.1 parts.1,
    )

still_held : (n at : ℕ) (hs : List Held) → is_held n (remove hs at) ≡ true → is_held n hs ≡ true
still_held n zero [] held = held
still_held n (suc at) [] held = held
still_held n zero (h ∷ hs) held = by_test (h.canvas.stream == n)
  where
    by_test : (b : Bool) → (b || is_held n hs) ≡ true
    by_test true = refl
    by_test false = held
still_held n (suc at) (h ∷ hs) held = by_test (still_held n at hs) (h.canvas.stream == n) held
  where
    by_test : (is_held n (remove hs at) ≡ true → is_held n hs ≡ true) → (b : Bool) → (b || is_held n (remove hs at)) ≡ true
        → (b || is_held n hs) ≡ true
    by_test later true held = refl
    by_test later false held = later held

not_held : (n : ℕ) (at : ℕ) (hs : List Held) → is_held n hs ≡ false → is_held n (remove hs at) ≡ false
not_held n at hs none = false_from_ne_true (is_held n (remove hs at)) (λ is. both_ways _ none (still_held n at hs is))

apart_left : (at : ℕ) (hs : List Held) → AllApart hs → AllApart (remove hs at)
apart_left zero [] apart = apart
apart_left (suc at) [] apart = apart
apart_left zero (h ∷ hs) apart = apart.1
apart_left (suc at) (h ∷ hs) apart = (not_held h.canvas.stream at hs apart.0, apart_left at hs apart.1)

-- what is taken out is held no more
taken_out : (at : ℕ) (x : Held) (hs : List Held) → AllApart hs → slice_get hs at ≡ Some x → is_held x.canvas.stream (remove hs at) ≡ false
taken_out zero x [] apart is = absurd cc
taken_out (suc at) x [] apart is = absurd cc
taken_out zero x (h ∷ hs) apart is =
    let same : h ≡ x = cc in subst (λ (y : Held). is_held y.canvas.stream hs ≡ false) same apart.0
taken_out (suc at) x (h ∷ hs) apart is = by_test (h.canvas.stream == x.canvas.stream) refl (taken_out at x hs apart.1 is)
  where
    by_test : (b : Bool) → (h.canvas.stream == x.canvas.stream) ≡ b → is_held x.canvas.stream (remove hs at) ≡ false
        → (b || is_held x.canvas.stream (remove hs at)) ≡ false
    by_test false other rest = rest
    by_test true same rest =
        let twice = any_at (λ (y : Held). y.canvas.stream == h.canvas.stream) hs at x is
        (eq-eqb x.canvas.stream h.canvas.stream (sym (eqb-true h.canvas.stream x.canvas.stream same))) in
        absurd (let no : true ≡ false = sym twice ∙ apart.0 in cc)

-- what a client holds, and what is left without it
pub record IsTaken (b : ℕ) (canvas : Canvas) (hs : List Held) : Type 0 where
  pub held : is_held canvas.stream hs ≡ true
  pub gone : is_held canvas.stream (without b hs) ≡ false
  pub left : (n : ℕ) → is_held n (without b hs) ≡ true → is_held n hs ≡ true
  pub apart : AllApart (without b hs)

pub taken : (b : ℕ) (canvas : Canvas) (hs : List Held) → AllApart hs → canvas_of b hs ≡ Some canvas → IsTaken b canvas hs
taken b canvas hs apart is = of_found (find (λ h. h.key == b) hs) refl is
  where
    of_found : (o : Option Held) → find (λ h. h.key == b) hs ≡ o → option_map (λ (h : Held). h.canvas) o ≡ Some canvas
        → IsTaken b canvas hs
    of_found None found is = absurd cc
    of_found (Some x) found is =
        let same : x.canvas ≡ canvas = cc in
        subst (λ (c : Canvas). IsTaken b c hs) same (of_place (position (λ h. h.key == b) hs) refl)
      where
        of_place : (o : Option ℕ) → position (λ h. h.key == b) hs ≡ o → IsTaken b x.canvas hs
        of_place None none =
            absurd (let no : None ≡ Some x =
            ap (option_and_then (slice_get hs)) (sym none) ∙ get_position (λ h. h.key == b) hs ∙ found in cc)
        of_place (Some at) here =
            let got : slice_get hs at ≡ Some x =
            ap (option_and_then (slice_get hs)) (sym here) ∙ get_position (λ h. h.key == b) hs ∙ found in
            record {
              held = any_by (λ (h : Held). h.key == b) (λ (h : Held). h.canvas.stream == x.canvas.stream) hs x found
                  (eq-eqb x.canvas.stream x.canvas.stream refl);
              gone = rw here (taken_out at x hs apart got);
              left = λ n is_left. still_held n at hs (rw here at is_left);
              apart = rw here (apart_left at hs apart);
            }

-- two clients hold write buffers of two streams
pub held_apart : (a b : ℕ) → (b == a) ≡ false → (one two : Canvas) (hs : List Held) → AllApart hs → canvas_of a hs ≡ Some one
    → canvas_of b hs ≡ Some two → (one.stream == two.stream) ≡ false
held_apart a b apart one two [] all first second = absurd cc
held_apart a b apart one two (h ∷ hs) all first second =
    by_tests (held_apart a b apart one two hs all.1) (h.key == a) refl (h.key == b) refl first second
  where
    -- the first one is of another stream than those behind it
    head : (c d : ℕ) (other : Canvas) → canvas_of d hs ≡ Some other → (h.canvas.stream == other.stream) ≡ false
    head c d other is =
        ne_eqb h.canvas.stream other.stream
        (λ same. both_ways _ all.0 (ap (λ k. is_held k hs) same ∙ (taken d other hs all.1 is).held))

    by_tests : (canvas_of a hs ≡ Some one → canvas_of b hs ≡ Some two → (one.stream == two.stream) ≡ false) → (t : Bool)
        → (h.key == a) ≡ t → (u : Bool) → (h.key == b) ≡ u → canvas_of a (h ∷ hs) ≡ Some one → canvas_of b (h ∷ hs) ≡ Some two
        → (one.stream == two.stream) ≡ false
    by_tests later true is_a true is_b first second =
        let both : b ≡ a = sym (eqb-true h.key b is_b) ∙ eqb-true h.key a is_a in
        absurd (let no : true ≡ false = sym (eq-eqb b a both) ∙ apart in cc)
    by_tests later true is_a false is_b first second =
        let here : h.canvas ≡ one = (let found : Some h.canvas ≡ Some one = rw is_a at first in cc) in
        ap (λ (c : Canvas). c.stream == two.stream) (sym here) ∙ head a b two (rw is_b at second)
    by_tests later false is_a true is_b first second =
        let here : h.canvas ≡ two = (let found : Some h.canvas ≡ Some two = rw is_b at second in cc) in
        other_way two.stream one.stream
        (ap (λ (c : Canvas). c.stream == one.stream) (sym here) ∙ head b a one (rw is_a at first))
    by_tests later false is_a false is_b first second = later (rw is_a at first) (rw is_b at second)
