-- The film of a play that is done is found the same by a check.
use Rattle.std.proofs.Common.{ℕ, List}
use Rattle.std.specs.Prelude.{Result, Ok, Err, IfOk}
use Rattle.wf_calls.specs.declared.order.Turn.{Turn}
use Rattle.wf_check.proofs.WrittenFilms.{found_same}
use Rattle.wf_film.specs.declared.form.FilmForm.{FilmForm}
use Rattle.wf_film.specs.Stands.{IsFilm, as_read}
use Rattle.wf_script.specs.Script.{PlainScript}
use Rattle.wf_turn.specs.declared.player.PlayStop.{PlayStop}
use Rattle.wf_turn.specs.Films.{PlaysFilm}
use Rattle.wf_turn.specs.Play.{plain_film}
use Rattle.wf_play.specs.Report.{IsFoundSame}

pub same_if_done : {K : Type 0} (took : K → List ℕ → Type 0) (old new : K) (form : FilmForm) (script : PlainScript)
    (r : Result (List Turn) PlayStop) → PlaysFilm took old new form script r
    → IfOk r (λ order. IsFilm (as_read (plain_film form script order))) → IsFoundSame form script r
same_if_done took old new form script (Ok order) plays ranges = found_same form script order plays.1 ranges
same_if_done took old new form script (Err stop) plays ranges = tt
