-- A film: what is read is what the bytes stand for, and what bytes stand for is read.
use Rattle.std.proofs.Common.{◌≡◌, ◌∙◌, ℕ, ◌<◌, ◌==◌, not, nat_lt, List, [], ◌∷◌, ◌++◌, length, map}
use Rattle.std.proofs.Common.{None, Result, Ok, Err, refl, sym, ap, subst, append_assoc, arith, length-append}
use Rattle.std.specs.List.{flat_map}
use Rattle.std.specs.Str.{byte}
use Rattle.std.proofs.lemmas.Bool.{eqb-true, ltb-false}
use Rattle.std.proofs.lemmas.List.{append-nil, nil_from_length}
use Rattle.byteorder.specs.Endian.{big_bytes}
use Rattle.wf_words.specs.Refusals.{refuse_if}
use Rattle.wf_film.specs.declared.form.FilmForm.{FilmForm}
use Rattle.wf_film.specs.declared.form.FilmForm.TheVariants as forms
use Rattle.wf_film.specs.declared.rule.Breach.{Breach}
use Rattle.wf_film.specs.declared.rule.Rule.TheVariants as rule
use Rattle.wf_film.specs.Film.{Frame, PlainFilm, film_bytes, frame_bytes, head_bytes, tail_bytes, turn_bytes, magic}
use Rattle.wf_film.specs.Stands.{IsFilm, IsWhole, Outline, Stands, as_read, frame_in, outline}
use Rattle.wf_film.specs.Reading.{byte_at, end_at, fault_of, film_at, film_fault, form_at, frames_at, journal_at, outlined, read_film}
use Rattle.wf_film.specs.Rules.{breach}
use Rattle.wf_film.proofs.FieldLaws.{byte_takes, form_again, form_takes}
use Rattle.wf_film.proofs.FrameLaws.{frames_again, frames_fit, frames_take}
use Rattle.wf_film.proofs.JournalLaws.{journal_again, journal_takes}
use Rattle.wf_film.proofs.Steps.{AreBytes, Takes, bind_ok, not_false, ok_is, passed, takes_both}

-- the end

end_takes : (bytes : List ℕ) (x : Unit {0} × List ℕ) → AreBytes bytes → end_at bytes ≡ Ok x → Takes bytes (byte "E" ∷ []) x.1
unfolding end_at
end_takes bytes x fits h =
    let tag = bind_ok (byte_at bytes) _ x h in
    let test = bind_ok (refuse_if (breach rule.Tag bytes) (not (tag.0.0 == byte "E"))) _ x tag.2 in
    let is : tag.0.0 ≡ byte "E" = eqb-true tag.0.0 (byte "E") (not_false (tag.0.0 == byte "E") (passed _ _ test.0 test.1)) in
    subst (λ (y : Unit {0} × List ℕ). Takes bytes (byte "E" ∷ []) y.1) (ok_is (tt, tag.0.1) x test.2)
    (subst (λ (t : ℕ). Takes bytes (t ∷ []) tag.0.1) is (byte_takes bytes tag.0 fits tag.1))

end_again : (rest : List ℕ) → end_at (byte "E" ∷ rest) ≡ Ok (tt, rest)
unfolding end_at
end_again rest = refl

-- the whole film

-- the parts of a film in one row
in_a_row : (film : PlainFilm) (rest : List ℕ) → film_bytes film ++ rest
    ≡ magic film.form ++ (flat_map (frame_bytes film.form) film.frames ++ byte "J" ∷ (big_bytes 4 (length film.order)
    ++ (flat_map turn_bytes film.order ++ byte "E" ∷ rest)))
in_a_row film rest = simp append_assoc

pub film_takes : (bytes : List ℕ) (x : PlainFilm × List ℕ) → AreBytes bytes → film_at bytes ≡ Ok x
    → (bytes ≡ film_bytes x.0 ++ x.1) × IsFilm x.0
unfolding film_at
film_takes bytes x fits h =
    let form = bind_ok (form_at bytes) _ x h in
    let frames = bind_ok (frames_at form.0.0 (length form.0.1) form.0.1) _ x form.2 in
    let order = bind_ok (journal_at frames.0.1) _ x frames.2 in
    let end = bind_ok (end_at order.0.1) _ x order.2 in
    let form_is = form_takes bytes form.0 fits form.1 in
    let frames_are = frames_take form.0.0 (length form.0.1) form.0.1 frames.0 form_is.fits frames.1 in
    let order_is = journal_takes frames.0.1 order.0 frames_are.takes.fits order.1 in
    let end_is = end_takes order.0.1 end.0 order_is.takes.fits end.1 in
    let film : PlainFilm = record { form = form.0.0; frames = frames.0.0; order = order.0.0 } in
    let count : List ℕ = big_bytes 4 (length order.0.0) in
    let entries : List ℕ = flat_map turn_bytes order.0.0 in
    let shown : List ℕ = flat_map (frame_bytes form.0.0) frames.0.0 in
    let text_order : List ℕ = (count ++ entries) ++ byte "E" ∷ [] in
    let text_frames : List ℕ = (shown ++ byte "J" ∷ []) ++ text_order in
    let from_order = takes_both frames.0.1 (count ++ entries) order.0.1 (byte "E" ∷ []) end.0.1 order_is.takes end_is in
    let from_frames = takes_both form.0.1 (shown ++ byte "J" ∷ []) frames.0.1 text_order end.0.1 frames_are.takes from_order in
    let all = takes_both bytes (magic form.0.0) form.0.1 text_frames end.0.1 form_is from_frames in
    let spelled : bytes ≡ film_bytes film ++ end.0.1 = all.parts ∙ regrouped form.0.0 shown count entries end.0.1 in
    let made : PlainFilm × List ℕ = (film, end.0.1) in
    subst (λ (y : PlainFilm × List ℕ). (bytes ≡ film_bytes y.0 ++ y.1) × IsFilm y.0) {x = made} (ok_is made x end.2)
    (spelled, record { frames = frames_are.each; turns = order_is.each; few = order_is.few })
  where
    regrouped : (form : FilmForm) (frames count entries rest : List ℕ)
        → (magic form ++ ((frames ++ byte "J" ∷ []) ++ ((count ++ entries) ++ byte "E" ∷ []))) ++ rest
        ≡ ((magic form ++ frames) ++ ((byte "J" ∷ count) ++ entries ++ byte "E" ∷ [])) ++ rest
    regrouped form frames count entries rest = simp append_assoc

pub film_again : (film : PlainFilm) (rest : List ℕ) → IsFilm film → film_at (film_bytes film ++ rest) ≡ Ok (film, rest)
unfolding film_at
film_again film rest is =
    let entries = flat_map turn_bytes film.order ++ byte "E" ∷ rest in
    let journal = big_bytes 4 (length film.order) ++ entries in
    let frames = flat_map (frame_bytes film.form) film.frames ++ byte "J" ∷ journal in
    let few : length film.frames < length frames =
    omega (arith, frames_fit film.form film.frames, length-append (flat_map (frame_bytes film.form) film.frames) (byte "J" ∷ journal)) in
    ap film_at (in_a_row film rest)
    ∙ rw (
      form_again film.form frames,
      frames_again film.form film.frames (length frames) journal is.frames few,
      journal_again film.order (byte "E" ∷ rest) is.turns is.few,
      end_again rest,
    ) refl

-- what is read is what the bytes stand for
pub read_stands : (bytes : List ℕ) (film : PlainFilm) → AreBytes bytes → read_film bytes ≡ Ok film → Stands bytes film
unfolding read_film
read_stands bytes film fits h =
    let read = bind_ok (film_at bytes) _ film h in
    let test = bind_ok (refuse_if (breach rule.Last read.0.1) (nat_lt 0 (length read.0.1))) _ film read.2 in
    let none : read.0.1 ≡ [] = nil_from_length read.0.1 (omega (arith, ltb-false 0 (length read.0.1) (passed _ _ test.0 test.1))) in
    let takes = film_takes bytes read.0 fits read.1 in
    subst (λ (x : PlainFilm). Stands bytes x) (ok_is read.0.0 film test.2)
    (record { is = takes.1; spelled = takes.0 ∙ ap (λ (t : List ℕ). film_bytes read.0.0 ++ t) none ∙ append-nil (film_bytes read.0.0) })

-- what bytes stand for is read
pub stands_read : (bytes : List ℕ) (film : PlainFilm) → Stands bytes film → read_film bytes ≡ Ok film
unfolding read_film
stands_read bytes film stands =
    let all : bytes ≡ film_bytes film ++ [] = stands.spelled ∙ sym (append-nil (film_bytes film)) in
    ap read_film all ∙ rw (film_again film [] stands.is) refl

-- no film begins another

pub begins_another : (film other : PlainFilm) (rest : List ℕ) → IsFilm film → IsFilm other → film_bytes film ++ rest ≡ film_bytes other
    → (film ≡ other) × (rest ≡ [])
begins_another film other rest is other_is same =
    let x : PlainFilm × List ℕ = (film, rest) in
    let y : PlainFilm × List ℕ = (other, []) in
    let one : x ≡ y = ok_is x y (sym (film_again film rest is) ∙ ap film_at (same ∙ sym (append-nil (film_bytes other)))
    ∙ film_again other [] other_is) in
    (ap (λ (p : PlainFilm × List ℕ). p.0) one, ap (λ (p : PlainFilm × List ℕ). p.1) one)

-- bytes that stand for a film are no front of another's, and no front of theirs is another
pub whole_bytes : (bytes : List ℕ) (film : PlainFilm) → Stands bytes film → IsWhole bytes
whole_bytes bytes film stands = record {
  no_front = λ rest other longer. (begins_another film other rest stands.is longer.is
      (ap (λ (t : List ℕ). t ++ rest) (sym stands.spelled) ∙ longer.spelled)).1;
  no_longer = λ front rest other same shorter. (begins_another other film rest shorter.is stands.is
      (ap (λ (t : List ℕ). t ++ rest) (sym shorter.spelled) ∙ sym same ∙ stands.spelled)).1;
}

-- bytes stand for one film at most
pub one_film : (bytes : List ℕ) (film other : PlainFilm) → Stands bytes film → Stands bytes other → film ≡ other
one_film bytes film other stands other_stands =
    ok_is film other (sym (stands_read bytes film stands) ∙ stands_read bytes other other_stands)

-- what is answered

-- the film that was read, where its outline is told
pub told : (bytes : List ℕ) (film : Outline) → outlined (read_film bytes) ≡ Ok film
    → (plain : PlainFilm) × (read_film bytes ≡ Ok plain) × (film ≡ outline plain)
told bytes film h = of_read (read_film bytes) refl h
  where
    of_read : (read : Result PlainFilm Breach) → read_film bytes ≡ read → outlined read ≡ Ok film
        → (plain : PlainFilm) × (read_film bytes ≡ Ok plain) × (film ≡ outline plain)
    of_read (Ok plain) is same = (plain, is, cc)
    of_read (Err e) is same = absurd cc

pub told_stands : (bytes : List ℕ) (film : Outline) → AreBytes bytes → outlined (read_film bytes) ≡ Ok film
    → (plain : PlainFilm) × Stands bytes plain × (film ≡ outline plain)
told_stands bytes film fits h =
    let read = told bytes film h in
    (read.0, read_stands bytes read.0 fits read.1, read.2)

pub told_whole : (bytes : List ℕ) (film : Outline) → AreBytes bytes → outlined (read_film bytes) ≡ Ok film → IsWhole bytes
told_whole bytes film fits h = let read = told_stands bytes film fits h in whole_bytes bytes read.0 read.1

pub told_only : (bytes : List ℕ) (film : Outline) (plain : PlainFilm) → outlined (read_film bytes) ≡ Ok film → Stands bytes plain
    → film ≡ outline plain
told_only bytes film plain h stands = ok_is film (outline plain) (sym h ∙ ap outlined (stands_read bytes plain stands))

pub no_fault : (bytes : List ℕ) (broken : Breach) (plain : PlainFilm) → outlined (read_film bytes) ≡ Err broken → Stands bytes plain → ⊥
no_fault bytes broken plain h stands = let same = ap outlined (stands_read bytes plain stands) in absurd cc

-- what the writer puts

frames_as_read : (form : FilmForm) (frames : List Frame)
    → flat_map (frame_bytes form) frames ≡ flat_map (frame_bytes form) (map (frame_in form) frames)
frames_as_read form [] = refl
frames_as_read forms.One (f ∷ frames) = ap (λ (t : List ℕ). frame_bytes forms.One f ++ t) (frames_as_read forms.One frames)
frames_as_read forms.Two (f ∷ frames) = ap (λ (t : List ℕ). frame_bytes forms.Two f ++ t) (frames_as_read forms.Two frames)

pub reads_back : (film : PlainFilm) → IsFilm (as_read film) → Stands (film_bytes film) (as_read film)
reads_back film is = record {
  is = is;
  spelled = ap (λ (t : List ℕ). (magic film.form ++ t) ++ tail_bytes film.order) (frames_as_read film.form film.frames);
}
