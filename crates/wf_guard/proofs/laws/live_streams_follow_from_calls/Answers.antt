use Rattle.wf_guard.proofs.Lives.{step_lives}
use Rattle.wf_guard.proofs.laws.live_streams_follow_from_calls.Goals as goal

pub returns : goal.returns
returns l h client c m = step_lives h client c m
