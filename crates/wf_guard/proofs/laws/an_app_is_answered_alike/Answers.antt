use Rattle.wf_guard.specs.LiveStreams.{after_turns, opened}
use Rattle.wf_guard.proofs.LooksAlike.{answered_alike}
use Rattle.wf_guard.proofs.Sound.{always_sound}
use Rattle.wf_guard.proofs.laws.an_app_is_answered_alike.Goals as goal

pub returns : goal.returns
returns l form other ports screens turns others a x m app alike meets =
    let both = answered_alike a app m (after_turns (opened form ports) turns) (after_turns (opened other screens) others)
    (always_sound form ports turns) (always_sound other screens others) alike x meets in
    (both.told, both.alike)
