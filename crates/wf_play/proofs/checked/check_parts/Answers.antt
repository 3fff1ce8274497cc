use Rattle.wf_play.proofs.Checks.{outcome}
use Rattle.wf_play.proofs.checked.check_parts.Goals as goal

pub returns-clause-outcome : goal.returns-clause-outcome
returns-clause-outcome c =
    outcome c.parts_of.result.0.now c.parts_of.result.1.now c.check_film.result c.check_film.ensures
