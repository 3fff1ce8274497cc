use Rattle.std.proofs.Common.{◌≡◌, ◌≤◌, List, ℕ, length, Result, Ok, Err, refl}
use Rattle.std.specs.Prelude.{IfErr}
use Rattle.wf_film.specs.declared.rule.Breach.{Breach}
use Rattle.wf_film.specs.Film.{PlainFilm}
use Rattle.wf_film.specs.Reading.{read_film}
use Rattle.wf_film.proofs.PlaceLaws.{lies_in_film}
use Rattle.wf_film.proofs.laws.faults_lie_in_the_film.Goals as goal

at_fault : (bytes : List ℕ) (read : Result PlainFilm Breach) → read_film bytes ≡ read → IfErr read (λ broken. broken.left ≤ length bytes)
at_fault bytes (Ok film) is = tt
at_fault bytes (Err broken) is = lies_in_film bytes broken is

pub returns : goal.returns
returns c = λ bytes. at_fault bytes (read_film bytes) refl
