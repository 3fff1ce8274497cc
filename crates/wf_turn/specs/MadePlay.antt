-- The serial play of a script that was made.
use Rattle.std.specs.Prelude.{◌≡◌, ℕ, ◌+◌, ◌*◌, List, length}
use Rattle.wf_calls.specs.declared.order.Turn.{Turn}
use Rattle.wf_film.specs.declared.form.FilmForm.{FilmForm}
use Rattle.wf_film.specs.declared.form.FilmForm.TheVariants as forms
use Rattle.wf_script.specs.Generator.{made}
use Rattle.wf_turn.specs.Play.{IsComplete, film, frames_after, replay}

-- how many bytes its film has, by the form: in the second one each frame tells the place of its begin
abbrev pub made_bytes : FilmForm → ℕ → ℕ
made_bytes forms.One rounds = 28 + 12406 * rounds
made_bytes forms.Two rounds = 28 + 12410 * rounds

-- the order leaves the script of a number of rounds through, after three events and eighteen for each round; its film has a frame
-- for each, and the bytes of that number
pub record IsMadePlay (rounds : ℕ) (order : List Turn) : Type 0 where
  pub complete : IsComplete (made rounds) order
  pub events : length order ≡ 3 + 18 * rounds
  pub frames : length (frames_after (replay (made rounds) order)) ≡ rounds
  pub bytes : (form : FilmForm) → length (film form (made rounds) order) ≡ made_bytes form rounds
