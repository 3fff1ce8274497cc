-- A field that is read is the field that stands at the front, and a field that stands there is read.
use Rattle.std.proofs.Common.{◌≡◌, ◌∙◌, ℕ, suc, ◌^◌, ◌<◌, ◌≤◌, Bool, true, false, not, nat_lt, List, [], ◌∷◌, ◌++◌, length, take, drop}
use Rattle.std.proofs.Common.{Result, Ok, Err, refl, sym, ap, subst, arith, length-append}
use Rattle.std.specs.Prelude.{if◌then◌else◌}
use Rattle.std.specs.Str.{bytes_eq}
use Rattle.std.proofs.lemmas.Bool.{le-ltb, ltb-false}
use Rattle.std.proofs.lemmas.List.{drop_at, length-take, take-append-drop, take_at}
use Rattle.std.proofs.lemmas.Nat.{be_bytes_2, be_bytes_4}
use Rattle.std.proofs.lemmas.Slice.Eq.{bytes_eq-Decides}
use Rattle.byteorder.specs.Endian.{big_bytes, big_number}
use Rattle.byteorder.specs.Numbers.{big_from-append, big_from-lt, big_number-reads_back, length-bytes_high_first}
use Rattle.wf_words.specs.Refusals.{refuse_if}
use Rattle.wf_film.specs.declared.form.FilmForm.{FilmForm}
use Rattle.wf_film.specs.declared.form.FilmForm.TheVariants as forms
use Rattle.wf_film.specs.declared.rule.Breach.{Breach}
use Rattle.wf_film.specs.declared.rule.Rule.TheVariants as rule
use Rattle.wf_film.specs.Film.{begin_bytes, magic}
use Rattle.wf_film.specs.Stands.{IsSide, MayBegin}
use Rattle.wf_film.specs.Reading.{begin_at, byte_at, byte_within, form_at, is_within, number_at, pixels_at, side_at}
use Rattle.wf_film.specs.Rules.{breach, ends_here}
use Rattle.wf_film.proofs.Steps.{AreBytes, Takes, bind_ok, bytes_before, bytes_behind, is_in_range, ok_is, passed, stays_in_range}
use Rattle.wf_pixel.specs.declared.TheConstants.{MOST_SIDE}

-- a test that chose the second
chosen : {A : Type 0} (b : Bool) (e : Breach) (x y : A) → (let r : Result A Breach = if b then Err e else Ok x in r ≡ Ok y)
    → (b ≡ false) × (x ≡ y)
chosen true e x y h = absurd cc
chosen false e x y h = (refl, cc)

-- bytes

pub byte_takes : (bytes : List ℕ) (x : ℕ × List ℕ) → AreBytes bytes → byte_at bytes ≡ Ok x → Takes bytes (x.0 ∷ []) x.1
byte_takes [] x fits h = absurd cc
byte_takes (b ∷ rest) x fits h =
    subst (λ (y : ℕ × List ℕ). Takes (b ∷ rest) (y.0 ∷ []) y.1) (ok_is (b, rest) x h)
    (record { parts = refl; fits = λ i. fits (suc i) })

pub within_takes : (low high : ℕ) (bytes : List ℕ) (x : ℕ × List ℕ) → AreBytes bytes → byte_within low high bytes ≡ Ok x
    → Takes bytes (x.0 ∷ []) x.1 × (low ≤ x.0) × (x.0 ≤ high)
within_takes low high bytes x fits h =
    let number = bind_ok (byte_at bytes) _ x h in
    let test = bind_ok (refuse_if (breach rule.Range bytes) (not (is_within low high number.0.0))) _ x number.2 in
    let range = is_in_range low high number.0.0 (passed _ _ test.0 test.1) in
    subst (λ (y : ℕ × List ℕ). Takes bytes (y.0 ∷ []) y.1 × (low ≤ y.0) × (y.0 ≤ high)) (ok_is number.0 x test.2)
    (byte_takes bytes number.0 fits number.1, range.0, range.1)

pub within_again : (low high n : ℕ) (rest : List ℕ) → low ≤ n → n ≤ high → byte_within low high (n ∷ rest) ≡ Ok (n, rest)
within_again low high n rest above below = rw (stays_in_range low high n above below) refl

-- numbers

-- the bytes of a number that was read are the bytes that it was read from
abbrev pub ComesBack : ℕ → Type 0
ComesBack n = (bytes : List ℕ) → length bytes ≡ n → AreBytes bytes → big_bytes n (big_number n bytes) ≡ bytes

pub two_come_back : ComesBack 2
two_come_back bytes len fits = be_bytes_2 bytes (big_number 2 bytes) len fits (omega arith)

pub four_come_back : ComesBack 4
four_come_back bytes len fits = be_bytes_4 bytes (big_number 4 bytes) len fits (omega arith)

pub number_takes : (n : ℕ) → ComesBack n → (bytes : List ℕ) (x : ℕ × List ℕ) → AreBytes bytes → number_at n bytes ≡ Ok x
    → Takes bytes (big_bytes n x.0) x.1 × (x.0 < 256 ^ n)
unfolding number_at
number_takes n back bytes x fits h =
    let test = chosen (nat_lt (length bytes) n) ends_here (big_number n bytes, drop n bytes) x h in
    let long : n ≤ length bytes = ltb-false _ _ test.0 in
    let front : length (take n bytes) ≡ n = omega (arith, length-take n bytes) in
    let same : big_number n bytes ≡ big_number n (take n bytes) =
    ap (big_number n) (sym (take-append-drop n bytes)) ∙ big_from-append n (take n bytes) (drop n bytes) (omega arith) in
    let spelled : big_bytes n (big_number n bytes) ≡ take n bytes =
    ap (big_bytes n) same ∙ back (take n bytes) front (bytes_before n bytes fits) in
    subst (λ (y : ℕ × List ℕ). Takes bytes (big_bytes n y.0) y.1 × (y.0 < 256 ^ n)) test.1 (
      record {
        parts = sym (take-append-drop n bytes) ∙ ap (λ (t : List ℕ). t ++ drop n bytes) (sym spelled);
        fits = bytes_behind n bytes fits;
      },
      big_from-lt 0 n bytes fits,
    )

pub number_again : (n x : ℕ) (rest : List ℕ) → x < 256 ^ n → number_at n (big_bytes n x ++ rest) ≡ Ok (x, rest)
unfolding number_at
number_again n x rest below =
    let len = length-bytes_high_first n x in
    let long : nat_lt (length (big_bytes n x ++ rest)) n ≡ false = le-ltb _ _ (omega (arith, length-append (big_bytes n x) rest)) in
    rw (long, big_number-reads_back n x rest below, drop_at (big_bytes n x) rest n len) refl

-- sides

pub side_takes : (bytes : List ℕ) (x : ℕ × List ℕ) → AreBytes bytes → side_at bytes ≡ Ok x → Takes bytes (big_bytes 2 x.0) x.1 × IsSide x.0
unfolding side_at
side_takes bytes x fits h =
    let side = bind_ok (number_at 2 bytes) _ x h in
    let test = bind_ok (refuse_if (breach rule.Range bytes) (not (is_within 1 MOST_SIDE side.0.0))) _ x side.2 in
    let range = is_in_range 1 MOST_SIDE side.0.0 (passed _ _ test.0 test.1) in
    subst (λ (y : ℕ × List ℕ). Takes bytes (big_bytes 2 y.0) y.1 × IsSide y.0) (ok_is side.0 x test.2)
    ((number_takes 2 two_come_back bytes side.0 fits side.1).0, record { low = range.0; high = range.1 })

pub side_again : (n : ℕ) (rest : List ℕ) → IsSide n → side_at (big_bytes 2 n ++ rest) ≡ Ok (n, rest)
unfolding side_at
side_again n rest is =
    let read = number_again 2 n rest (omega (arith, is.high)) in
    let range = stays_in_range 1 MOST_SIDE n is.low is.high in
    rw (read, range) refl

-- pixels

pub pixels_take : (n : ℕ) (bytes : List ℕ) (x : List ℕ × List ℕ) → AreBytes bytes → pixels_at n bytes ≡ Ok x
    → Takes bytes x.0 x.1 × (length x.0 ≡ n)
unfolding pixels_at
pixels_take n bytes x fits h =
    let test = chosen (nat_lt (length bytes) n) ends_here (take n bytes, drop n bytes) x h in
    let long : n ≤ length bytes = ltb-false _ _ test.0 in
    subst (λ (y : List ℕ × List ℕ). Takes bytes y.0 y.1 × (length y.0 ≡ n)) test.1
    (record { parts = sym (take-append-drop n bytes); fits = bytes_behind n bytes fits }, omega (arith, length-take n bytes))

pub pixels_again : (n : ℕ) (pixels rest : List ℕ) → length pixels ≡ n → pixels_at n (pixels ++ rest) ≡ Ok (pixels, rest)
unfolding pixels_at
pixels_again n pixels rest len =
    let long : nat_lt (length (pixels ++ rest)) n ≡ false = le-ltb _ _ (omega (arith, length-append pixels rest)) in
    rw (long, take_at pixels rest n len, drop_at pixels rest n len) refl

-- begins

pub begin_takes : (form : FilmForm) (bytes : List ℕ) (x : ℕ × List ℕ) → AreBytes bytes → begin_at form bytes ≡ Ok x
    → Takes bytes (begin_bytes form x.0) x.1 × MayBegin form x.0
begin_takes forms.One bytes x fits h =
    subst (λ (y : ℕ × List ℕ). Takes bytes (begin_bytes forms.One y.0) y.1 × MayBegin forms.One y.0) (ok_is (0, bytes) x h)
    (record { parts = refl; fits = fits }, refl)
begin_takes forms.Two bytes x fits h = number_takes 4 four_come_back bytes x fits h

pub begin_again : (form : FilmForm) (n : ℕ) (rest : List ℕ) → MayBegin form n
    → begin_at form (begin_bytes form n ++ rest) ≡ Ok (n, rest)
begin_again forms.One n rest may = rw may refl
begin_again forms.Two n rest may = number_again 4 n rest may

-- the magic

pub form_takes : (bytes : List ℕ) (x : FilmForm × List ℕ) → AreBytes bytes → form_at bytes ≡ Ok x → Takes bytes (magic x.0) x.1
unfolding form_at
form_takes bytes x fits h = of_length (nat_lt (length bytes) 4) h
  where
    taken : (form : FilmForm) → bytes_eq (take 4 bytes) (magic form) ≡ true → (form, drop 4 bytes) ≡ x → Takes bytes (magic x.0) x.1
    taken form is same =
        let spelled : take 4 bytes ≡ magic form = (bytes_eq-Decides (take 4 bytes) (magic form)).0 is in
        subst (λ (y : FilmForm × List ℕ). Takes bytes (magic y.0) y.1) same
        (record {
          parts = sym (take-append-drop 4 bytes) ∙ ap (λ (t : List ℕ). t ++ drop 4 bytes) spelled;
          fits = bytes_behind 4 bytes fits;
        })

    of_two : (b : Bool) → bytes_eq (take 4 bytes) (magic forms.Two) ≡ b
        → (if b then Ok (forms.Two, drop 4 bytes) else Err (breach rule.Magic bytes)) ≡ Ok x → Takes bytes (magic x.0) x.1
    of_two true is same = taken forms.Two is (ok_is (forms.Two, drop 4 bytes) x same)
    of_two false is same = absurd cc

    of_one : (b : Bool) → bytes_eq (take 4 bytes) (magic forms.One) ≡ b
        → (if b then Ok (forms.One, drop 4 bytes)
        else (if bytes_eq (take 4 bytes) (magic forms.Two) then Ok (forms.Two, drop 4 bytes) else Err (breach rule.Magic bytes))) ≡ Ok x
        → Takes bytes (magic x.0) x.1
    of_one true is same = taken forms.One is (ok_is (forms.One, drop 4 bytes) x same)
    of_one false is same = of_two (bytes_eq (take 4 bytes) (magic forms.Two)) refl same

    of_length : (b : Bool)
        → (if b then Err ends_here
        else (if bytes_eq (take 4 bytes) (magic forms.One) then Ok (forms.One, drop 4 bytes)
        else (if bytes_eq (take 4 bytes) (magic forms.Two) then Ok (forms.Two, drop 4 bytes) else Err (breach rule.Magic bytes)))) ≡ Ok x
        → Takes bytes (magic x.0) x.1
    of_length true same = absurd cc
    of_length false same = of_one (bytes_eq (take 4 bytes) (magic forms.One)) refl same

pub form_again : (form : FilmForm) (rest : List ℕ) → form_at (magic form ++ rest) ≡ Ok (form, rest)
unfolding form_at
form_again forms.One rest =
    let long : nat_lt (length (magic forms.One ++ rest)) 4 ≡ false =
    le-ltb _ _ (omega (arith, length-append (magic forms.One) rest)) in
    rw long refl
form_again forms.Two rest =
    let long : nat_lt (length (magic forms.Two ++ rest)) 4 ≡ false =
    le-ltb _ _ (omega (arith, length-append (magic forms.Two) rest)) in
    rw long refl
