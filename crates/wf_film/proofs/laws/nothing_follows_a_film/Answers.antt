use Rattle.wf_film.proofs.CutLaws.{more_is_told}
use Rattle.wf_film.proofs.laws.nothing_follows_a_film.Goals as goal

pub returns : goal.returns
returns c = λ film b rest is. more_is_told film b rest is
