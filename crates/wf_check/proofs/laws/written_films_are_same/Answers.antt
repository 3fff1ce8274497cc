use Rattle.wf_check.proofs.WrittenFilms.{found_same}
use Rattle.wf_check.proofs.laws.written_films_are_same.Goals as goal

pub returns : goal.returns
returns c = λ form script order complete ranges. found_same form script order complete ranges
