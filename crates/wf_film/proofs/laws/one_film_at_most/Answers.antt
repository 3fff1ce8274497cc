use Rattle.wf_film.proofs.FilmLaws.{one_film}
use Rattle.wf_film.proofs.laws.one_film_at_most.Goals as goal

pub returns : goal.returns
returns c = λ bytes film other stands other_stands. one_film bytes film other stands other_stands
