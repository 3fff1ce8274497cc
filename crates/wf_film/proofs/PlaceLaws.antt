-- A rule is broken at a place of the film: no more bytes are left there than it has.
use Rattle.std.proofs.Common.{◌≡◌, ℕ, zero, suc, ◌*◌, ◌≤◌, ◌==◌, Bool, true, false, not, nat_lt, List, [], ◌∷◌, length, take, drop}
use Rattle.std.proofs.Common.{◌∙◌, Result, Ok, Err, refl, ap, arith}
use Rattle.std.specs.Prelude.{if◌then◌else◌}
use Rattle.std.specs.Str.{byte, bytes_eq}
use Rattle.std.proofs.lemmas.List.{length-drop}
use Rattle.byteorder.specs.Endian.{big_number}
use Rattle.wf_words.specs.Refusals.{◌>>=◌, refuse_if}
use Rattle.wf_film.specs.declared.form.FilmForm.{FilmForm}
use Rattle.wf_film.specs.declared.form.FilmForm.TheVariants as forms
use Rattle.wf_film.specs.declared.rule.Breach.{Breach}
use Rattle.wf_film.specs.declared.rule.Rule.TheVariants as rule
use Rattle.wf_film.specs.Film.{PlainFilm, magic}
use Rattle.wf_film.specs.Reading.{Read, begin_at, byte_at, byte_within, end_at, film_at, form_at, frame_at, frames_at, is_within}
use Rattle.wf_film.specs.Reading.{journal_at, number_at, outlined, pixels_at, read_film, side_at, turn_at, turns_at}
use Rattle.wf_film.specs.Rules.{breach, ends_here}
use Rattle.wf_pixel.specs.declared.TheConstants.{MOST_SIDE}

-- what was read from these bytes left no more than they are
abbrev LeavesLess : {A : Type 0} → List ℕ → Read A → Type 0
LeavesLess bytes (Ok x) = length x.1 ≤ length bytes
LeavesLess bytes (Err e) = e.left ≤ length bytes

-- steps

-- what is behind is less still
less_still : {A : Type 0} (bytes rest : List ℕ) (r : Read A) → length rest ≤ length bytes → LeavesLess rest r → LeavesLess bytes r
less_still bytes rest (Ok y) less after = omega (arith, less, after)
less_still bytes rest (Err e) less after = omega (arith, less, after)

then_less : {A B : Type 0} (bytes : List ℕ) (r : Read A) (f : A × List ℕ → Read B) → LeavesLess bytes r
    → ((x : A × List ℕ) → LeavesLess x.1 (f x)) → LeavesLess bytes (r >>= f)
then_less bytes (Ok x) f less later = less_still bytes x.1 (f x) less (later x)
then_less bytes (Err e) f less later = less

tested_less : {A : Type 0} (bytes : List ℕ) (e : Breach) (b : Bool) (r : Read A) → e.left ≤ length bytes → LeavesLess bytes r
    → LeavesLess bytes (refuse_if e b >>= λ _. r)
tested_less bytes e true r here less = here
tested_less bytes e false r here less = less

then_tested : {A B : Type 0} (bytes : List ℕ) (r : Read A) (e : Breach) (test : A × List ℕ → Bool) (f : A × List ℕ → Read B)
    → e.left ≤ length bytes → LeavesLess bytes r → ((x : A × List ℕ) → LeavesLess x.1 (f x))
    → LeavesLess bytes (r >>= λ x. refuse_if e (test x) >>= λ _. f x)
then_tested bytes (Ok x) e test f here less later =
    tested_less bytes e (test x) (f x) here (less_still bytes x.1 (f x) less (later x))
then_tested bytes (Err broken) e test f here less later = less

chosen_less : {A : Type 0} (bytes : List ℕ) (b : Bool) (r s : Read A) → LeavesLess bytes r → LeavesLess bytes s
    → LeavesLess bytes (if b then r else s)
chosen_less bytes true r s first second = first
chosen_less bytes false r s first second = second

-- fields

byte_less : (bytes : List ℕ) → LeavesLess bytes (byte_at bytes)
byte_less [] = omega arith
byte_less (b ∷ rest) = omega arith

within_less : (low high : ℕ) (bytes : List ℕ) → LeavesLess bytes (byte_within low high bytes)
within_less low high bytes =
    then_tested bytes (byte_at bytes) (breach rule.Range bytes) (λ number. not (is_within low high number.0)) _ (omega arith)
    (byte_less bytes) (λ number. omega arith)

number_less : (n : ℕ) (bytes : List ℕ) → LeavesLess bytes (number_at n bytes)
unfolding number_at
number_less n bytes =
    chosen_less bytes (nat_lt (length bytes) n) (Err ends_here) (Ok (big_number n bytes, drop n bytes)) (omega arith)
    (omega (arith, length-drop n bytes))

side_less : (bytes : List ℕ) → LeavesLess bytes (side_at bytes)
unfolding side_at
side_less bytes =
    then_tested bytes (number_at 2 bytes) (breach rule.Range bytes) (λ side. not (is_within 1 MOST_SIDE side.0)) _ (omega arith)
    (number_less 2 bytes) (λ side. omega arith)

pixels_less : (n : ℕ) (bytes : List ℕ) → LeavesLess bytes (pixels_at n bytes)
unfolding pixels_at
pixels_less n bytes =
    chosen_less bytes (nat_lt (length bytes) n) (Err ends_here) (Ok (take n bytes, drop n bytes)) (omega arith)
    (omega (arith, length-drop n bytes))

form_less : (bytes : List ℕ) → LeavesLess bytes (form_at bytes)
unfolding form_at
form_less bytes =
    let behind = length-drop 4 bytes in
    chosen_less bytes (nat_lt (length bytes) 4) (Err ends_here) _ (omega arith)
    (chosen_less bytes (bytes_eq (take 4 bytes) (magic forms.One)) (Ok (forms.One, drop 4 bytes)) _ (omega (arith, behind))
    (chosen_less bytes (bytes_eq (take 4 bytes) (magic forms.Two)) (Ok (forms.Two, drop 4 bytes)) (Err (breach rule.Magic bytes))
    (omega (arith, behind)) (omega arith)))

begin_less : (form : FilmForm) (bytes : List ℕ) → LeavesLess bytes (begin_at form bytes)
begin_less forms.One bytes = omega arith
begin_less forms.Two bytes = number_less 4 bytes

-- frames

frame_less : (form : FilmForm) (bytes : List ℕ) → LeavesLess bytes (frame_at form bytes)
unfolding frame_at
frame_less form bytes =
    then_less bytes (byte_within 1 4 bytes) _ (within_less 1 4 bytes)
    (λ port. then_less port.1 (number_at 4 port.1) _ (number_less 4 port.1)
    (λ tick. then_less tick.1 (begin_at form tick.1) _ (begin_less form tick.1)
    (λ begin. then_less begin.1 (side_at begin.1) _ (side_less begin.1)
    (λ w. then_less w.1 (side_at w.1) _ (side_less w.1)
    (λ h. then_less h.1 (pixels_at (4 * (w.0 * h.0)) h.1) _ (pixels_less (4 * (w.0 * h.0)) h.1)
    (λ pixels. omega arith))))))

frames_less : (form : FilmForm) (most : ℕ) (bytes : List ℕ) → LeavesLess bytes (frames_at form most bytes)
unfolding frames_at
frames_less form zero bytes = omega arith
frames_less form (suc most) bytes =
    tagged (byte_at bytes) (byte_less bytes) (λ after. frames_less form most after)
  where
    tagged : (r : Read ℕ) → LeavesLess bytes r → ((after : List ℕ) → LeavesLess after (frames_at form most after))
        → LeavesLess bytes (r >>= λ tag. if tag.0 == byte "J" then Ok ([], tag.1) else (refuse_if (breach rule.Tag bytes)
        (not (tag.0 == byte "F")) >>= λ _. frame_at form tag.1 >>= λ frame. frames_at form most frame.1 >>= λ others.
        Ok (frame.0 ∷ others.0, others.1)))
    tagged (Err e) less later = less
    tagged (Ok tag) less later =
        chosen_less bytes (tag.0 == byte "J") (Ok ([], tag.1)) _ less
        (tested_less bytes (breach rule.Tag bytes) (not (tag.0 == byte "F")) _ (omega arith)
        (then_less bytes (Ok tag) (λ read. frame_at form read.1 >>= λ frame. frames_at form most frame.1 >>= λ others.
        Ok (frame.0 ∷ others.0, others.1)) less
        (λ read. then_less read.1 (frame_at form read.1) _ (frame_less form read.1)
        (λ frame. then_less frame.1 (frames_at form most frame.1) _ (later frame.1) (λ others. omega arith)))))

-- the journal

turn_less : (bytes : List ℕ) → LeavesLess bytes (turn_at bytes)
unfolding turn_at
turn_less bytes =
    then_less bytes (byte_within 0 7 bytes) _ (within_less 0 7 bytes)
    (λ client. then_less client.1 (byte_within 0 12 client.1) _ (within_less 0 12 client.1)
    (λ code. then_less code.1 (number_at 4 code.1) _ (number_less 4 code.1) (λ value. omega arith)))

turns_less : (n : ℕ) (bytes : List ℕ) → LeavesLess bytes (turns_at n bytes)
unfolding turns_at
turns_less zero bytes = omega arith
turns_less (suc n) bytes =
    then_less bytes (turn_at bytes) _ (turn_less bytes)
    (λ first. then_less first.1 (turns_at n first.1) _ (turns_less n first.1) (λ others. omega arith))

journal_less : (bytes : List ℕ) → LeavesLess bytes (journal_at bytes)
unfolding journal_at
journal_less bytes = then_less bytes (number_at 4 bytes) _ (number_less 4 bytes) (λ count. turns_less count.0 count.1)

-- the film

end_less : (bytes : List ℕ) → LeavesLess bytes (end_at bytes)
unfolding end_at
end_less bytes =
    then_tested bytes (byte_at bytes) (breach rule.Tag bytes) (λ tag. not (tag.0 == byte "E")) _ (omega arith)
    (byte_less bytes) (λ tag. omega arith)

film_less : (bytes : List ℕ) → LeavesLess bytes (film_at bytes)
unfolding film_at
film_less bytes =
    then_less bytes (form_at bytes) _ (form_less bytes)
    (λ form. then_less form.1 (frames_at form.0 (length form.1) form.1) _ (frames_less form.0 (length form.1) form.1)
    (λ frames. then_less frames.1 (journal_at frames.1) _ (journal_less frames.1)
    (λ order. then_less order.1 (end_at order.1) _ (end_less order.1) (λ end. omega arith))))

pub lies_in_film : (bytes : List ℕ) (broken : Breach) → read_film bytes ≡ Err broken → broken.left ≤ length bytes
unfolding read_film
lies_in_film bytes broken h = of_film (film_at bytes) (film_less bytes) h
  where
    of_test : (film : PlainFilm) (rest : List ℕ) (b : Bool) → length rest ≤ length bytes
        → (refuse_if (breach rule.Last rest) b >>= λ _. Ok film) ≡ Err broken → broken.left ≤ length bytes
    of_test film rest true less same = let is : breach rule.Last rest ≡ broken = cc in omega (arith, less, ap (λ (e : Breach). e.left) is)
    of_test film rest false less same = absurd cc

    of_film : (r : Read PlainFilm) → LeavesLess bytes r
        → (r >>= λ film. refuse_if (breach rule.Last film.1) (nat_lt 0 (length film.1)) >>= λ _. Ok film.0) ≡ Err broken
        → broken.left ≤ length bytes
    of_film (Ok x) less same = of_test x.0 x.1 (nat_lt 0 (length x.1)) less same
    of_film (Err e) less same = let is : e ≡ broken = cc in omega (arith, less, ap (λ (e : Breach). e.left) is)

pub told_in_film : (bytes : List ℕ) (broken : Breach) → outlined (read_film bytes) ≡ Err broken → broken.left ≤ length bytes
told_in_film bytes broken h = of_read (read_film bytes) refl h
  where
    of_read : (read : Result PlainFilm Breach) → read_film bytes ≡ read → outlined read ≡ Err broken → broken.left ≤ length bytes
    of_read (Ok film) is same = absurd cc
    of_read (Err e) is same = let e_is : e ≡ broken = cc in lies_in_film bytes broken (is ∙ ap (λ (x : Breach). Err x) e_is)
