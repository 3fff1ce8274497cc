-- What a play wrote is found the same.
use Rattle.std.proofs.Common.{List, refl}
use Rattle.wf_calls.specs.declared.order.Turn.{Turn}
use Rattle.wf_film.specs.declared.form.FilmForm.{FilmForm}
use Rattle.wf_film.specs.Stands.{IsFilm, as_read}
use Rattle.wf_film.proofs.FilmLaws.{reads_back}
use Rattle.wf_script.specs.Script.{PlainScript}
use Rattle.wf_turn.specs.Play.{IsComplete, film, plain_film}
use Rattle.wf_check.specs.Verdicts.{IsSame}

pub found_same : (form : FilmForm) (script : PlainScript) (order : List Turn) → IsComplete script order
    → IsFilm (as_read (plain_film form script order)) → IsSame script (film form script order)
found_same form script order complete ranges =
    record {
      film = as_read (plain_film form script order);
      stands = reads_back (plain_film form script order) ranges;
      complete = complete;
      same = refl;
    }
