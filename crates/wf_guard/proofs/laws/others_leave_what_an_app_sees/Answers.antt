use Rattle.wf_guard.specs.LiveStreams.{after_turns, opened}
use Rattle.wf_guard.proofs.Sound.{always_sound}
use Rattle.wf_guard.proofs.Spared.{spared_alike}
use Rattle.wf_guard.proofs.laws.others_leave_what_an_app_sees.Goals as goal

pub returns : goal.returns
returns l form ports turns a b x m app apart spares =
    spared_alike a app (after_turns (opened form ports) turns) (always_sound form ports turns) b apart m x spares
