use Rattle.wf_film.proofs.FilmLaws.{reads_back}
use Rattle.wf_film.proofs.laws.written_films_are_read.Goals as goal

pub returns : goal.returns
returns c = λ film is. reads_back film is
