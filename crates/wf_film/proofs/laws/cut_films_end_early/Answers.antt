use Rattle.wf_film.proofs.CutLaws.{cut_is_told}
use Rattle.wf_film.proofs.laws.cut_films_end_early.Goals as goal

pub returns : goal.returns
returns c = λ film n is short. cut_is_told film n is short
