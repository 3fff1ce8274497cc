use Rattle.wf_play.proofs.Checks.{outcome_caused, outcome_used}
use Rattle.wf_play.proofs.checked.play_check.Goals as goal

pub returns-in-Ok-clause-mode : goal.returns-in-Ok-clause-mode
returns-in-Ok-clause-mode g c = outcome_used c.check_parts.result c.check_parts.ensures.outcome

pub returns-in-Ok-clause-caused : goal.returns-in-Ok-clause-caused
returns-in-Ok-clause-caused g c = outcome_caused _ _ 0 0 c.check_parts.result c.check_parts.ensures.outcome
