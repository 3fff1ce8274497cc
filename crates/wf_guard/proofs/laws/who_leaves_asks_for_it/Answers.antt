use Rattle.wf_guard.specs.LiveStreams.{after_turns, opened}
use Rattle.wf_guard.proofs.Leaving.{leaving}
use Rattle.wf_guard.proofs.Sound.{always_sound}
use Rattle.wf_guard.proofs.laws.who_leaves_asks_for_it.Goals as goal

pub returns : goal.returns
returns l form ports turns client = leaving client (after_turns (opened form ports) turns) (always_sound form ports turns)
