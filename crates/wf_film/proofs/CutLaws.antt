-- A film that is cut ends early: its fault is at its end. What follows a film is a fault too.
use Rattle.std.proofs.Common.{◌≡◌, ◌∙◌, ℕ, zero, suc, ◌+◌, ◌-◌, ◌*◌, ◌^◌, ◌<◌, nat_lt, true, List, [], ◌∷◌, ◌++◌, length, take}
use Rattle.std.proofs.Common.{Some, Ok, Err, refl, ap, append_assoc, arith, inl, inr, length-append}
use Rattle.std.specs.List.{flat_map, AllByRecursion}
use Rattle.std.specs.Str.{byte}
use Rattle.std.proofs.Math.Seq.{take-append-add}
use Rattle.std.proofs.lemmas.Bool.{cases_lt, lt-ltb}
use Rattle.std.proofs.lemmas.List.{length-take, take-append-le}
use Rattle.byteorder.specs.Endian.{big_bytes}
use Rattle.byteorder.specs.Numbers.{length-bytes_high_first}
use Rattle.wf_words.specs.Refusals.{◌>>=◌}
use Rattle.wf_calls.specs.declared.order.Turn.{Turn}
use Rattle.wf_calls.specs.Orders.{IsTurn}
use Rattle.wf_film.specs.declared.form.FilmForm.{FilmForm}
use Rattle.wf_film.specs.declared.form.FilmForm.TheVariants as forms
use Rattle.wf_film.specs.declared.rule.Rule.TheVariants as rule
use Rattle.wf_film.specs.Film.{Frame, PlainFilm, begin_bytes, film_bytes, frame_bytes, magic, turn_bytes}
use Rattle.wf_film.specs.Stands.{IsFilm, IsFrame}
use Rattle.wf_film.specs.Reading.{Read, begin_at, byte_at, byte_within, end_at, fault_of, film_at, film_fault, form_at}
use Rattle.wf_film.specs.Reading.{frame_at, frames_at, journal_at, number_at, pixels_at, read_film, side_at, turn_at, turns_at}
use Rattle.wf_film.specs.Rules.{breach, ends_here}
use Rattle.wf_film.proofs.FieldLaws.{begin_again, form_again, number_again, side_again, within_again}
use Rattle.wf_film.proofs.FilmLaws.{film_again}
use Rattle.wf_film.proofs.FrameLaws.{frame_again, frame_body, frames_again, frames_fit, frame_bytes_is}
use Rattle.wf_film.proofs.JournalLaws.{journal_again, turn_again}

-- steps

-- where one text is read, and then another, a cut of both ends early
then_cut : {A B : Type 0} (r : List ℕ → Read A) (f : A × List ℕ → Read B) (a b : List ℕ) (x : A) (n : ℕ)
    → ((rest : List ℕ) → r (a ++ rest) ≡ Ok (x, rest)) → ((m : ℕ) → m < length a → r (take m a) ≡ Err ends_here)
    → ((m : ℕ) → m < length b → f (x, take m b) ≡ Err ends_here) → n < length (a ++ b) → (r (take n (a ++ b)) >>= f) ≡ Err ends_here
then_cut r f a b x n whole cut later short =
    elim (cases_lt n (length a)) [
      | inl lt ↦ rw (take-append-le n a b (omega arith), cut n lt) refl
      | inr le ↦ behind (n - length a) (omega arith)
    ]
  where
    behind : (m : ℕ) → n ≡ length a + m → (r (take n (a ++ b)) >>= f) ≡ Err ends_here
    behind m split =
        let front : take n (a ++ b) ≡ a ++ take m b = ap (λ (k : ℕ). take k (a ++ b)) split ∙ take-append-add a b m in
        let left : m < length b = omega (arith, length-append a b) in
        rw (front, whole (take m b)) (later m left)

last_cut : {A B : Type 0} (r : List ℕ → Read A) (f : A × List ℕ → Read B) (a : List ℕ) (n : ℕ)
    → ((m : ℕ) → m < length a → r (take m a) ≡ Err ends_here) → n < length a → (r (take n a) >>= f) ≡ Err ends_here
last_cut r f a n cut short = rw (cut n short) refl

-- fields

byte_cut : (b n : ℕ) → n < 1 → byte_at (take n (b ∷ [])) ≡ Err ends_here
byte_cut b zero short = refl
byte_cut b (suc n) short = absurd (omega arith)

within_cut : (low high b n : ℕ) → n < 1 → byte_within low high (take n (b ∷ [])) ≡ Err ends_here
within_cut low high b n short = rw (byte_cut b n short) refl

number_cut : (k x n : ℕ) → n < length (big_bytes k x) → number_at k (take n (big_bytes k x)) ≡ Err ends_here
unfolding number_at
number_cut k x n short =
    let few : nat_lt (length (take n (big_bytes k x))) k ≡ true =
    lt-ltb _ _ (omega (arith, length-take n (big_bytes k x), length-bytes_high_first k x)) in
    rw few refl

side_cut : (x n : ℕ) → n < 2 → side_at (take n (big_bytes 2 x)) ≡ Err ends_here
unfolding side_at
side_cut x n short = rw (number_cut 2 x n short) refl

pixels_cut : (k : ℕ) (pixels : List ℕ) (n : ℕ) → length pixels ≡ k → n < length pixels → pixels_at k (take n pixels) ≡ Err ends_here
unfolding pixels_at
pixels_cut k pixels n len short =
    let few : nat_lt (length (take n pixels)) k ≡ true = lt-ltb _ _ (omega (arith, length-take n pixels)) in
    rw few refl

form_cut : (form : FilmForm) (n : ℕ) → n < length (magic form) → form_at (take n (magic form)) ≡ Err ends_here
unfolding form_at
form_cut forms.One n short =
    let few : nat_lt (length (take n (magic forms.One))) 4 ≡ true = lt-ltb _ _ (omega (arith, length-take n (magic forms.One))) in
    rw few refl
form_cut forms.Two n short =
    let few : nat_lt (length (take n (magic forms.Two))) 4 ≡ true = lt-ltb _ _ (omega (arith, length-take n (magic forms.Two))) in
    rw few refl

begin_cut : (form : FilmForm) (x n : ℕ) → n < length (begin_bytes form x) → begin_at form (take n (begin_bytes form x)) ≡ Err ends_here
begin_cut forms.One x n short = absurd (omega arith)
begin_cut forms.Two x n short = number_cut 4 x n short

-- frames

frame_cut : (form : FilmForm) (f : Frame) (n : ℕ) → IsFrame form f → n < length (frame_body form f)
    → frame_at form (take n (frame_body form f)) ≡ Err ends_here
unfolding frame_at
frame_cut form f n is short =
    let from_h : List ℕ = big_bytes 2 f.size.h ++ f.pixels in
    let from_w : List ℕ = big_bytes 2 f.size.w ++ from_h in
    let from_begin : List ℕ = begin_bytes form f.begin ++ from_w in
    let from_tick : List ℕ = big_bytes 4 f.tick ++ from_begin in
    then_cut (byte_within 1 4) _ (f.port ∷ []) from_tick f.port n (λ rest. within_again 1 4 f.port rest is.low_port is.high_port)
    (within_cut 1 4 f.port)
    (λ m lt. then_cut (number_at 4) _ (big_bytes 4 f.tick) from_begin f.tick m (λ rest. number_again 4 f.tick rest is.tick)
    (number_cut 4 f.tick)
    (λ m lt. then_cut (begin_at form) _ (begin_bytes form f.begin) from_w f.begin m (λ rest. begin_again form f.begin rest is.begin)
    (begin_cut form f.begin)
    (λ m lt. then_cut side_at _ (big_bytes 2 f.size.w) from_h f.size.w m (λ rest. side_again f.size.w rest is.width) (side_cut f.size.w)
    (λ m lt. then_cut side_at _ (big_bytes 2 f.size.h) f.pixels f.size.h m (λ rest. side_again f.size.h rest is.height)
    (side_cut f.size.h)
    (λ m lt. last_cut (pixels_at (4 * (f.size.w * f.size.h))) _ f.pixels m
    (λ m lt. pixels_cut (4 * (f.size.w * f.size.h)) f.pixels m is.pixels lt) lt) lt) lt) lt) lt) short

frames_cut : (form : FilmForm) (frames : List Frame) (most n : ℕ) → AllByRecursion (IsFrame form) frames
    → n < length (flat_map (frame_bytes form) frames ++ byte "J" ∷ [])
    → frames_at form most (take n (flat_map (frame_bytes form) frames ++ byte "J" ∷ [])) ≡ Err ends_here
unfolding frames_at
frames_cut form frames zero n each short = refl
frames_cut form [] (suc most) zero each short = refl
frames_cut form [] (suc most) (suc n) each short = absurd (omega arith)
frames_cut form (f ∷ frames) (suc most) n each short =
    let later : List ℕ = flat_map (frame_bytes form) frames ++ byte "J" ∷ [] in
    let regrouped : flat_map (frame_bytes form) (f ∷ frames) ++ byte "J" ∷ [] ≡ byte "F" ∷ (frame_body form f ++ later) =
    append_assoc (frame_bytes form f) (flat_map (frame_bytes form) frames) (byte "J" ∷ [])
    ∙ ap (λ (t : List ℕ). t ++ later) (frame_bytes_is form f) in
    let fits : n < length (byte "F" ∷ (frame_body form f ++ later)) = omega (arith, ap length regrouped) in
    ap (λ (t : List ℕ). frames_at form (suc most) (take n t)) regrouped
    ∙ of_tag n later fits (λ m lt. frames_cut form frames most m each.1 lt)
  where
    of_tag : (n : ℕ) (later : List ℕ) → n < length (byte "F" ∷ (frame_body form f ++ later))
        → ((m : ℕ) → m < length later → frames_at form most (take m later) ≡ Err ends_here)
        → frames_at form (suc most) (take n (byte "F" ∷ (frame_body form f ++ later))) ≡ Err ends_here
    of_tag zero later lt after = refl
    of_tag (suc n) later lt after =
        then_cut (frame_at form) _ (frame_body form f) later f n (λ rest. frame_again form f rest each.0)
        (λ m fits. frame_cut form f m each.0 fits) (λ m fits. rw (after m fits) refl) (omega arith)

-- the journal

turn_cut : (t : Turn) (n : ℕ) → IsTurn t → n < length (turn_bytes t) → turn_at (take n (turn_bytes t)) ≡ Err ends_here
unfolding turn_at
turn_cut t n is short =
    then_cut (byte_within 0 7) _ (t.client ∷ []) (t.code ∷ big_bytes 4 t.value) t.client n
    (λ rest. within_again 0 7 t.client rest (omega arith) is.client) (within_cut 0 7 t.client)
    (λ m lt. then_cut (byte_within 0 12) _ (t.code ∷ []) (big_bytes 4 t.value) t.code m
    (λ rest. within_again 0 12 t.code rest (omega arith) is.code) (within_cut 0 12 t.code)
    (λ m lt. last_cut (number_at 4) _ (big_bytes 4 t.value) m (number_cut 4 t.value) lt) lt) short

turns_cut : (turns : List Turn) (n : ℕ) → AllByRecursion IsTurn turns → n < length (flat_map turn_bytes turns)
    → turns_at (length turns) (take n (flat_map turn_bytes turns)) ≡ Err ends_here
unfolding turns_at
turns_cut [] n each short = absurd (omega arith)
turns_cut (t ∷ turns) n each short =
    then_cut turn_at _ (turn_bytes t) (flat_map turn_bytes turns) t n (λ rest. turn_again t rest each.0)
    (λ m lt. turn_cut t m each.0 lt) (λ m lt. rw (turns_cut turns m each.1 lt) refl) short

journal_cut : (order : List Turn) (n : ℕ) → AllByRecursion IsTurn order → length order < 2 ^ 32
    → n < length (big_bytes 4 (length order) ++ flat_map turn_bytes order)
    → journal_at (take n (big_bytes 4 (length order) ++ flat_map turn_bytes order)) ≡ Err ends_here
unfolding journal_at
journal_cut order n each few short =
    then_cut (number_at 4) _ (big_bytes 4 (length order)) (flat_map turn_bytes order) (length order) n
    (λ rest. number_again 4 (length order) rest few) (number_cut 4 (length order)) (λ m lt. turns_cut order m each lt) short

end_cut : (n : ℕ) → n < 1 → end_at (take n (byte "E" ∷ [])) ≡ Err ends_here
unfolding end_at
end_cut n short = rw (byte_cut (byte "E") n short) refl

-- the film

film_cut : (film : PlainFilm) (n : ℕ) → IsFilm film → n < length (film_bytes film) → film_at (take n (film_bytes film)) ≡ Err ends_here
unfolding film_at
film_cut film n is short =
    let shown : List ℕ = flat_map (frame_bytes film.form) film.frames ++ byte "J" ∷ [] in
    let journal : List ℕ = big_bytes 4 (length film.order) ++ flat_map turn_bytes film.order in
    let regrouped : film_bytes film ≡ magic film.form ++ (shown ++ (journal ++ byte "E" ∷ [])) = simp append_assoc in
    ap (λ (t : List ℕ). film_at (take n t)) regrouped
    ∙ then_cut form_at _ (magic film.form) (shown ++ (journal ++ byte "E" ∷ [])) film.form n (form_again film.form) (form_cut film.form)
    (λ m lt. then_cut (λ bytes. frames_at film.form (length bytes) bytes) _ shown (journal ++ byte "E" ∷ []) film.frames m
    (λ rest. frames_whole rest) (λ m lt. frames_cut film.form film.frames (length (take m shown)) m is.frames lt)
    (λ m lt. then_cut journal_at _ journal (byte "E" ∷ []) film.order m (λ rest. journal_whole rest)
    (λ m lt. journal_cut film.order m is.turns is.few lt)
    (λ m lt. last_cut end_at _ (byte "E" ∷ []) m end_cut lt) lt) lt) (omega (arith, ap length regrouped))
  where
    frames_whole : (rest : List ℕ) → (let shown : List ℕ = flat_map (frame_bytes film.form) film.frames ++ byte "J" ∷ [] in
        frames_at film.form (length (shown ++ rest)) (shown ++ rest) ≡ Ok (film.frames, rest))
    frames_whole rest =
        let regrouped : (flat_map (frame_bytes film.form) film.frames ++ byte "J" ∷ []) ++ rest
        ≡ flat_map (frame_bytes film.form) film.frames ++ byte "J" ∷ rest =
        append_assoc (flat_map (frame_bytes film.form) film.frames) (byte "J" ∷ []) rest in
        let few : length film.frames < length (flat_map (frame_bytes film.form) film.frames ++ byte "J" ∷ rest) =
        omega (
          arith,
          frames_fit film.form film.frames,
          length-append (flat_map (frame_bytes film.form) film.frames) (byte "J" ∷ rest),
        ) in
        ap (λ (t : List ℕ). frames_at film.form (length t) t) regrouped
        ∙ frames_again film.form film.frames (length (flat_map (frame_bytes film.form) film.frames ++ byte "J" ∷ rest)) rest is.frames few

    journal_whole : (rest : List ℕ) → journal_at ((big_bytes 4 (length film.order) ++ flat_map turn_bytes film.order) ++ rest)
        ≡ Ok (film.order, rest)
    journal_whole rest =
        ap journal_at (append_assoc (big_bytes 4 (length film.order)) (flat_map turn_bytes film.order) rest)
        ∙ journal_again film.order rest is.turns is.few

-- a film that is cut breaks the rule of its end, there
pub cut_is_told : (film : PlainFilm) (n : ℕ) → IsFilm film → n < length (film_bytes film)
    → film_fault (take n (film_bytes film)) ≡ Some (record { at = n; rule = 3 })
unfolding read_film
cut_is_told film n is short =
    let cut : read_film (take n (film_bytes film)) ≡ Err ends_here = rw (film_cut film n is short) refl in
    let len : length (take n (film_bytes film)) ≡ n = omega (arith, length-take n (film_bytes film)) in
    ap (fault_of (length (take n (film_bytes film)))) cut
    ∙ ap (λ (k : ℕ). Some (record { at = k; rule = 3 })) (omega (arith, len))

-- what follows a film breaks the last rule, where it begins
pub more_is_told : (film : PlainFilm) (b : ℕ) (rest : List ℕ) → IsFilm film
    → film_fault (film_bytes film ++ b ∷ rest) ≡ Some (record { at = length (film_bytes film); rule = 5 })
unfolding read_film
more_is_told film b rest is =
    let bytes : List ℕ = film_bytes film ++ b ∷ rest in
    let some : nat_lt 0 (length (b ∷ rest)) ≡ true = lt-ltb _ _ (omega arith) in
    let follows : read_film bytes ≡ Err (breach rule.Last (b ∷ rest)) = rw (film_again film (b ∷ rest) is, some) refl in
    let place : length bytes - length (b ∷ rest) ≡ length (film_bytes film) =
    omega (arith, length-append (film_bytes film) (b ∷ rest)) in
    ap (fault_of (length bytes)) follows ∙ ap (λ (k : ℕ). Some (record { at = k; rule = 5 })) place
