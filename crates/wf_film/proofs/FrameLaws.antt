-- The frames of a film: what is read stands at the front, and what stands there is read.
use Rattle.std.proofs.Common.{◌≡◌, ◌∙◌, ℕ, zero, suc, ◌*◌, ◌<◌, ◌≤◌, ◌==◌, Bool, true, false, not, List, [], ◌∷◌, ◌++◌, length}
use Rattle.std.proofs.Common.{Ok, refl, sym, ap, subst, append_assoc, arith, length-append}
use Rattle.std.specs.Prelude.{if◌then◌else◌, ◌^◌, nat_le}
use Rattle.std.specs.List.{flat_map, AllByRecursion}
use Rattle.std.specs.Str.{byte}
use Rattle.std.proofs.lemmas.Bool.{and_parts, eqb-true, leb-true}
use Rattle.byteorder.specs.Endian.{big_bytes}
use Rattle.wf_words.specs.Refusals.{◌>>=◌, refuse_if}
use Rattle.wf_pixel.specs.declared.Size.{Size}
use Rattle.wf_pixel.specs.Choice.{has_sides, is_side}
use Rattle.wf_pixel.specs.declared.TheConstants.{MOST_SIDE}
use Rattle.wf_image.specs.Bitmap.{Bitmap, image_bytes, pixel_bytes}
use Rattle.wf_film.specs.declared.form.FilmForm.{FilmForm}
use Rattle.wf_film.specs.declared.form.FilmForm.TheVariants as forms
use Rattle.wf_film.specs.declared.rule.Rule.TheVariants as rule
use Rattle.wf_film.specs.Film.{Frame, begin_bytes, frame_bytes, frame_of}
use Rattle.wf_film.specs.Stands.{IsFrame, IsFrameIn, IsSide, MayBegin, frame_in}
use Rattle.wf_film.specs.Reading.{begin_at, behind, byte_at, byte_within, frame_at, frames_at, number_at, pixels_at, side_at}
use Rattle.wf_film.specs.Rules.{breach}
use Rattle.wf_film.proofs.FieldLaws.{begin_again, begin_takes, byte_takes, four_come_back, number_again, number_takes, pixels_again}
use Rattle.wf_film.proofs.FieldLaws.{pixels_take, side_again, side_takes, within_again, within_takes}
use Rattle.wf_film.proofs.Steps.{AreBytes, Takes, bind_ok, not_false, ok_is, passed, takes_both}

-- a frame

-- what stands behind the tag of a frame
abbrev pub frame_body : FilmForm → Frame → List ℕ
frame_body form f =
    (f.port ∷ []) ++ (big_bytes 4 f.tick ++ (begin_bytes form f.begin ++ (big_bytes 2 f.size.w ++ (big_bytes 2 f.size.h ++ f.pixels))))

pub frame_takes : (form : FilmForm) (bytes : List ℕ) (x : Frame × List ℕ) → AreBytes bytes → frame_at form bytes ≡ Ok x
    → Takes bytes (frame_body form x.0) x.1 × IsFrame form x.0
unfolding frame_at
frame_takes form bytes x fits h =
    let port = bind_ok (byte_within 1 4 bytes) _ x h in
    let tick = bind_ok (number_at 4 port.0.1) _ x port.2 in
    let begin = bind_ok (begin_at form tick.0.1) _ x tick.2 in
    let w = bind_ok (side_at begin.0.1) _ x begin.2 in
    let h = bind_ok (side_at w.0.1) _ x w.2 in
    let pixels = bind_ok (pixels_at (4 * (w.0.0 * h.0.0)) h.0.1) _ x h.2 in
    let port_is = within_takes 1 4 bytes port.0 fits port.1 in
    let tick_is = number_takes 4 four_come_back port.0.1 tick.0 port_is.0.fits tick.1 in
    let begin_is = begin_takes form tick.0.1 begin.0 tick_is.0.fits begin.1 in
    let w_is = side_takes begin.0.1 w.0 begin_is.0.fits w.1 in
    let h_is = side_takes w.0.1 h.0 w_is.0.fits h.1 in
    let pixels_are = pixels_take (4 * (w.0.0 * h.0.0)) h.0.1 pixels.0 h_is.0.fits pixels.1 in
    let text_h : List ℕ = big_bytes 2 h.0.0 ++ pixels.0.0 in
    let text_w : List ℕ = big_bytes 2 w.0.0 ++ text_h in
    let text_begin : List ℕ = begin_bytes form begin.0.0 ++ text_w in
    let text_tick : List ℕ = big_bytes 4 tick.0.0 ++ text_begin in
    let from_h = takes_both w.0.1 (big_bytes 2 h.0.0) h.0.1 pixels.0.0 pixels.0.1 h_is.0 pixels_are.0 in
    let from_w = takes_both begin.0.1 (big_bytes 2 w.0.0) w.0.1 text_h pixels.0.1 w_is.0 from_h in
    let from_begin = takes_both tick.0.1 (begin_bytes form begin.0.0) begin.0.1 text_w pixels.0.1 begin_is.0 from_w in
    let from_tick = takes_both port.0.1 (big_bytes 4 tick.0.0) tick.0.1 text_begin pixels.0.1 tick_is.0 from_begin in
    let from_port = takes_both bytes (port.0.0 ∷ []) port.0.1 text_tick pixels.0.1 port_is.0 from_tick in
    let size : Size = record { w = w.0.0; h = h.0.0 } in
    let f : Frame = record { port = port.0.0; tick = tick.0.0; begin = begin.0.0; size = size; pixels = pixels.0.0 } in
    let made : Frame × List ℕ = (f, pixels.0.1) in
    subst (λ (y : Frame × List ℕ). Takes bytes (frame_body form y.0) y.1 × IsFrame form y.0) {x = made} (ok_is made x pixels.2) (
      from_port,
      record {
        low_port = port_is.1;
        high_port = port_is.2;
        tick = tick_is.1;
        begin = begin_is.1;
        width = w_is.1;
        height = h_is.1;
        pixels = pixels_are.1;
      },
    )

pub frame_again : (form : FilmForm) (f : Frame) (rest : List ℕ) → IsFrame form f
    → frame_at form (frame_body form f ++ rest) ≡ Ok (f, rest)
unfolding frame_at
frame_again form f rest is =
    let regrouped : frame_body form f ++ rest ≡ f.port ∷ (big_bytes 4 f.tick ++ (begin_bytes form f.begin ++ (big_bytes 2 f.size.w
    ++ (big_bytes 2 f.size.h ++ (f.pixels ++ rest))))) = simp append_assoc in
    ap (frame_at form) regrouped
    ∙ rw (
      within_again 1 4 f.port (big_bytes 4 f.tick ++ (begin_bytes form f.begin ++ (big_bytes 2 f.size.w
          ++ (big_bytes 2 f.size.h ++ (f.pixels ++ rest))))) is.low_port is.high_port,
      number_again 4 f.tick (begin_bytes form f.begin ++ (big_bytes 2 f.size.w ++ (big_bytes 2 f.size.h ++ (f.pixels ++ rest)))) is.tick,
      begin_again form f.begin (big_bytes 2 f.size.w ++ (big_bytes 2 f.size.h ++ (f.pixels ++ rest))) is.begin,
      side_again f.size.w (big_bytes 2 f.size.h ++ (f.pixels ++ rest)) is.width,
      side_again f.size.h (f.pixels ++ rest) is.height,
      pixels_again (4 * (f.size.w * f.size.h)) f.pixels rest is.pixels,
    ) refl

-- the frame that shows an image of 4 bytes a pixel

side_is : (n : ℕ) → is_side n ≡ true → IsSide n
side_is n is =
    let both = and_parts (nat_le 1 n) (nat_le n MOST_SIDE) is in
    record { low = leb-true 1 n both.0; high = leb-true n MOST_SIDE both.1 }

pub image_stands : (form : FilmForm) (port tick begin : ℕ) (image : Bitmap) → 1 ≤ port → port ≤ 4 → tick < 2 ^ 32 → begin < 2 ^ 32
    → has_sides image.size ≡ true → pixel_bytes image.format ≡ 4 → length image.bytes ≡ image_bytes image.size image.format
    → IsFrameIn form (frame_of port tick begin image)
image_stands form port tick begin image low high ticks begins sides four bytes = of_form form
  where
    size : Size
    size = image.size

    both : (is_side size.w ≡ true) × (is_side size.h ≡ true)
    both = and_parts (is_side size.w) (is_side size.h) sides

    pixels : length image.bytes ≡ 4 * (size.w * size.h)
    pixels = omega (arith, bytes, ap (λ n. size.w * size.h * n) four)

    of_begin : (form : FilmForm) (begin_is : MayBegin form (frame_in form (frame_of port tick begin image)).begin)
        → IsFrame form (record (frame_of port tick begin image) { begin = (frame_in form (frame_of port tick begin image)).begin })
    of_begin form begin_is =
        record {
          low_port = low;
          high_port = high;
          tick = ticks;
          begin = begin_is;
          width = side_is size.w both.0;
          height = side_is size.h both.1;
          pixels = pixels;
        }

    of_form : (form : FilmForm) → IsFrameIn form (frame_of port tick begin image)
    of_form forms.One = of_begin forms.One refl
    of_form forms.Two = of_begin forms.Two begins

-- frames

pub frame_bytes_is : (form : FilmForm) (f : Frame) → frame_bytes form f ≡ byte "F" ∷ frame_body form f
frame_bytes_is forms.One f = refl
frame_bytes_is forms.Two f = refl

-- these frames stand at the front, and then the tag of the journal
pub record FramesTake (form : FilmForm) (bytes : List ℕ) (frames : List Frame) (rest : List ℕ) : Type 0 where
  pub takes : Takes bytes (flat_map (frame_bytes form) frames ++ byte "J" ∷ []) rest
  pub each : AllByRecursion (IsFrame form) frames

no_frames_take : (form : FilmForm) (bytes rest : List ℕ) (tag : ℕ) → Takes bytes (tag ∷ []) rest → tag ≡ byte "J"
    → FramesTake form bytes [] rest
no_frames_take form bytes rest tag takes is = record { takes = subst (λ (t : ℕ). Takes bytes (t ∷ []) rest) is takes; each = tt }

one_frame_takes : (form : FilmForm) (bytes behind after rest : List ℕ) (tag : ℕ) (f : Frame) (frames : List Frame)
    → Takes bytes (tag ∷ []) behind → tag ≡ byte "F" → Takes behind (frame_body form f) after → IsFrame form f
    → FramesTake form after frames rest → FramesTake form bytes (f ∷ frames) rest
one_frame_takes form bytes behind after rest tag f frames first is body f_is later =
    let front : Takes bytes (byte "F" ∷ []) behind = subst (λ (t : ℕ). Takes bytes (t ∷ []) behind) is first in
    let frame : Takes bytes (frame_bytes form f) after =
    subst (λ (t : List ℕ). Takes bytes t after) (sym (frame_bytes_is form f))
    (takes_both bytes (byte "F" ∷ []) behind (frame_body form f) after front body) in
    let all = takes_both bytes (frame_bytes form f) after (flat_map (frame_bytes form) frames ++ byte "J" ∷ []) rest frame later.takes in
    let regrouped : frame_bytes form f ++ (flat_map (frame_bytes form) frames ++ byte "J" ∷ [])
    ≡ flat_map (frame_bytes form) (f ∷ frames) ++ byte "J" ∷ [] =
    sym (append_assoc (frame_bytes form f) (flat_map (frame_bytes form) frames) (byte "J" ∷ [])) in
    record { takes = subst (λ (t : List ℕ). Takes bytes t rest) regrouped all; each = (f_is, later.each) }

pub frames_take : (form : FilmForm) (most : ℕ) (bytes : List ℕ) (x : List Frame × List ℕ) → AreBytes bytes
    → frames_at form most bytes ≡ Ok x → FramesTake form bytes x.0 x.1
unfolding frames_at
frames_take form zero bytes x fits h = absurd cc
frames_take form (suc most) bytes x fits h =
    let tag = bind_ok (byte_at bytes) _ x h in
    of_tag tag.0.0 tag.0.1 (byte_takes bytes tag.0 fits tag.1) (tag.0.0 == byte "J") refl tag.2
    (λ after y fits_after same. frames_take form most after y fits_after same)
  where
    of_tag : (tag : ℕ) (behind : List ℕ) → Takes bytes (tag ∷ []) behind → (b : Bool) → (tag == byte "J") ≡ b
        → (if b then Ok ([], behind) else (refuse_if (breach rule.Tag bytes) (not (tag == byte "F")) >>= λ _. frame_at form behind
        >>= λ frame. frames_at form most frame.1 >>= λ others. Ok (frame.0 ∷ others.0, others.1))) ≡ Ok x
        → ((after : List ℕ) (y : List Frame × List ℕ) → AreBytes after → frames_at form most after ≡ Ok y
        → FramesTake form after y.0 y.1)
        → FramesTake form bytes x.0 x.1
    of_tag tag behind first true is same later =
        subst (λ (y : List Frame × List ℕ). FramesTake form bytes y.0 y.1) (ok_is ([], behind) x same)
        (no_frames_take form bytes behind tag first (eqb-true tag (byte "J") is))
    of_tag tag behind first false is same later =
        let test = bind_ok (refuse_if (breach rule.Tag bytes) (not (tag == byte "F"))) _ x same in
        let frame = bind_ok (frame_at form behind) _ x test.2 in
        let others = bind_ok (frames_at form most frame.0.1) _ x frame.2 in
        let tag_is : tag ≡ byte "F" = eqb-true tag (byte "F") (not_false (tag == byte "F") (passed _ _ test.0 test.1)) in
        let body = frame_takes form behind frame.0 first.fits frame.1 in
        let made : List Frame × List ℕ = (frame.0.0 ∷ others.0.0, others.0.1) in
        subst (λ (y : List Frame × List ℕ). FramesTake form bytes y.0 y.1) {x = made} (ok_is made x others.2)
        (one_frame_takes form bytes behind frame.0.1 others.0.1 tag frame.0.0 others.0.0 first tag_is body.0 body.1
        (later frame.0.1 others.0 body.0.fits others.1))

pub frames_again : (form : FilmForm) (frames : List Frame) (most : ℕ) (rest : List ℕ) → AllByRecursion (IsFrame form) frames
    → length frames < most → frames_at form most (flat_map (frame_bytes form) frames ++ byte "J" ∷ rest) ≡ Ok (frames, rest)
unfolding frames_at
frames_again form [] zero rest each few = absurd (omega arith)
frames_again form [] (suc most) rest each few = refl
frames_again form (f ∷ frames) zero rest each few = absurd (omega arith)
frames_again form (f ∷ frames) (suc most) rest each few =
    let regrouped : flat_map (frame_bytes form) (f ∷ frames) ++ byte "J" ∷ rest
    ≡ byte "F" ∷ (frame_body form f ++ (flat_map (frame_bytes form) frames ++ byte "J" ∷ rest)) =
    append_assoc (frame_bytes form f) (flat_map (frame_bytes form) frames) (byte "J" ∷ rest)
    ∙ ap (λ (t : List ℕ). t ++ (flat_map (frame_bytes form) frames ++ byte "J" ∷ rest)) (frame_bytes_is form f) in
    ap (frames_at form (suc most)) regrouped
    ∙ rw (
      frame_again form f (flat_map (frame_bytes form) frames ++ byte "J" ∷ rest) each.0,
      frames_again form frames most rest each.1 (omega arith),
    ) refl

-- there are no more frames than bytes
pub frames_fit : (form : FilmForm) (frames : List Frame) → length frames ≤ length (flat_map (frame_bytes form) frames)
frames_fit form [] = omega arith
frames_fit form (f ∷ frames) =
    let later = frames_fit form frames in
    let one = ap length (frame_bytes_is form f) in
    omega (arith, later, one, length-append (frame_bytes form f) (flat_map (frame_bytes form) frames))
