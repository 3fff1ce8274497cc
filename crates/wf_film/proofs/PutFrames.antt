-- Frames that are put one after another.
use Rattle.std.proofs.Common.{◌≡◌, ℕ, ◌+◌, List, [], ◌∷◌, ◌++◌, length, map, refl, sym, ap, subst, arith, append-nil, length-append}
use Rattle.std.specs.List.{flat_map, AllByRecursion}
use Rattle.std.specs.Prelude.{OnOk, Result, Ok, Err}
use Rattle.std.proofs.lemmas.Grind.{flat_map-append}
use Rattle.wf_io.specs.Bytes.{Puts}
use Rattle.wf_io.specs.Parts.{puts_both}
use Rattle.wf_film.specs.declared.form.FilmForm.{FilmForm}
use Rattle.wf_film.specs.Film.{Frame, frame_bytes}
use Rattle.wf_film.specs.Frames.{PutsFrames}
use Rattle.wf_film.specs.Stands.{IsFrame, IsFrameIn, frame_in}

both_stand : (form : FilmForm) (xs ys : List Frame) → AllByRecursion (IsFrameIn form) xs → AllByRecursion (IsFrameIn form) ys
    → AllByRecursion (IsFrameIn form) (xs ++ ys)
both_stand form [] ys first second = second
both_stand form (x ∷ xs) ys first second = (first.0, both_stand form xs ys first.1 second)

-- frames that stand in a film stand in it as they are read
pub read_frames_stand : (form : FilmForm) (xs : List Frame) → AllByRecursion (IsFrameIn form) xs
    → AllByRecursion (IsFrame form) (map (frame_in form) xs)
read_frames_stand form [] stand = tt
read_frames_stand form (x ∷ xs) stand = (stand.0, read_frames_stand form xs stand.1)

module _ {K : Type 0} (took : K → List ℕ → Type 0) (form : FilmForm) where
  abbrev bytes : List Frame → List ℕ
  bytes frames = flat_map (frame_bytes form) frames

  pub no_frames : (k : K) (was : ℕ) → PutsFrames took k k form was was []
  no_frames k was =
      record { put = λ before taken. subst (took k) (sym (append-nil before)) taken; written_is = omega arith; stand = tt }

  pub one_frame : (a b : K) (was written : ℕ) (f : Frame) → Puts took a b (frame_bytes form f)
      → written ≡ was + length (frame_bytes form f) → IsFrameIn form f → PutsFrames took a b form was written (f ∷ [])
  one_frame a b was written f put written_is stands =
      let one : bytes (f ∷ []) ≡ frame_bytes form f = append-nil (frame_bytes form f) in
      record {
        put = subst (λ bs. Puts took a b bs) (sym one) put;
        written_is = omega (arith, written_is, ap length one);
        stand = (stands, tt);
      }

  pub both_frames : (a b c : K) (was middle written : ℕ) (xs ys : List Frame) → PutsFrames took a b form was middle xs
      → PutsFrames took b c form middle written ys → PutsFrames took a c form was written (xs ++ ys)
  both_frames a b c was middle written xs ys first second =
      let joined : bytes (xs ++ ys) ≡ bytes xs ++ bytes ys = flat_map-append (frame_bytes form) xs ys in
      record {
        put = subst (λ bs. Puts took a c bs) (sym joined) (puts_both took a b c (bytes xs) (bytes ys) first.put second.put);
        written_is = omega (arith, first.written_is, second.written_is, ap length joined, length-append (bytes xs) (bytes ys));
        stand = both_stand form xs ys first.stand second.stand;
      }

  -- a frame that was put, where it was put whole
  pub frame_if_ok : {E : Type 0} (r : Result (Unit {0}) E) (a b : K) (was written : ℕ) (f : Frame)
      → OnOk r (Puts took a b (frame_bytes form f)) → OnOk r (written ≡ was + length (frame_bytes form f)) → IsFrameIn form f
      → OnOk r (PutsFrames took a b form was written (f ∷ []))
  frame_if_ok (Ok x) a b was written f put written_is stands = one_frame a b was written f put written_is stands
  frame_if_ok (Err e) a b was written f put written_is stands = tt
