use Rattle.wf_film.proofs.FilmLaws.{begins_another}
use Rattle.wf_film.proofs.laws.no_film_begins_another.Goals as goal

pub returns : goal.returns
returns c = λ film other rest is other_is same. (begins_another film other rest is other_is same).1
