-- Frames that a writer puts.
use Rattle.std.specs.Prelude.{◌≡◌, ℕ, ◌+◌, List, length, flat_map}
use Rattle.std.specs.List.{AllByRecursion}
use Rattle.wf_io.specs.Bytes.{Puts}
use Rattle.wf_film.specs.declared.form.FilmForm.{FilmForm}
use Rattle.wf_film.specs.Film.{Frame, frame_bytes}
use Rattle.wf_film.specs.Stands.{IsFrameIn}

-- frames were put, one after another, each of which stands in a film of the form: the number of bytes that are written rose from
-- `was` to `written` by their bytes
pub record PutsFrames {K : Type 0} (took : K → List ℕ → Type 0) (old new : K) (form : FilmForm) (was written : ℕ) (frames : List Frame)
    : Type 0 where
  pub put : Puts took old new (flat_map (frame_bytes form) frames)
  pub written_is : written ≡ was + length (flat_map (frame_bytes form) frames)
  pub stand : AllByRecursion (IsFrameIn form) frames
