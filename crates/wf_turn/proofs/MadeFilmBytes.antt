-- How many bytes a film has whose frames are of 64 by 48 pixels.
use Rattle.wf_turn.proofs.Common.{◌≡◌, ℕ, ◌+◌, ◌*◌, List, [], ◌∷◌, ◌++◌, length, flat_map, refl, arith, length-append, Turn, FilmForm}
use Rattle.wf_turn.proofs.Common.{Frame}
use Rattle.wf_turn.proofs.Common.{frame_bytes, tail_bytes}
use Rattle.byteorder.specs.Numbers.{length-bytes_high_first}
use Rattle.wf_film.specs.declared.form.FilmForm.TheVariants as forms
use Rattle.wf_film.specs.Film.{film_bytes, frame_head, head_bytes, journal_head, turn_bytes}
use Rattle.wf_turn.specs.MadePlay.{made_bytes}
use Rattle.wf_turn.proofs.RoundsPlayed.{all_long}

-- frames of the port's size
abbrev pub AllSized : List Frame → Type 0
AllSized [] = Unit {0}
AllSized (f ∷ fs) = (length f.pixels ≡ 12288) × AllSized fs

-- the head of a frame, and a frame
abbrev head_length : FilmForm → ℕ
head_length forms.One = 10
head_length forms.Two = 14

head_long : (form : FilmForm) (f : Frame) → length (frame_head form f) ≡ head_length form
head_long forms.One f = simp (length-append {A = ℕ}, length-bytes_high_first)
head_long forms.Two f = simp (length-append {A = ℕ}, length-bytes_high_first)

frames_long : (form : FilmForm) (fs : List Frame) → AllSized fs
    → length (flat_map (frame_bytes form) fs) ≡ length fs * (head_length form + 12288)
frames_long form [] sized = omega arith
frames_long form (f ∷ fs) sized =
    let rest = frames_long form fs sized.1 in
    let one : length (frame_bytes form f) ≡ head_length form + 12288 =
    omega (arith, length-append (frame_head form f) f.pixels, head_long form f, sized.0) in
    omega (arith, length-append (frame_bytes form f) (flat_map (frame_bytes form) fs), one, rest)

turn_long : (t : Turn) → length (turn_bytes t) ≡ 6
turn_long t = simp (length-append {A = ℕ}, length-bytes_high_first)

tail_long : (order : List Turn) → length (tail_bytes order) ≡ 6 + 6 * length order
tail_long order =
    let turns = all_long turn_bytes 6 turn_long order in
    let start : length (journal_head order) ≡ 5 = refl in
    omega (
      arith,
      length-append (journal_head order ++ flat_map turn_bytes order) (69 ∷ []),
      length-append (journal_head order) (flat_map turn_bytes order),
      turns,
      start,
    )

pub film_long : (form : FilmForm) (frames : List Frame) (order : List Turn) (rounds : ℕ) → AllSized frames → length frames ≡ rounds
    → length order ≡ 3 + 18 * rounds
    → length (film_bytes (record { form = form; frames = frames; order = order })) ≡ made_bytes form rounds
film_long forms.One frames order rounds sized count events =
    omega (arith, length-append (head_bytes forms.One frames) (tail_bytes order), tail_long order, frames_long forms.One frames sized)
film_long forms.Two frames order rounds sized count events =
    omega (arith, length-append (head_bytes forms.Two frames) (tail_bytes order), tail_long order, frames_long forms.Two frames sized)
