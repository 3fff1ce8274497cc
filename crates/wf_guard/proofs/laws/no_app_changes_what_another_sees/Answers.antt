use Rattle.wf_guard.specs.LiveStreams.{after_turns, opened}
use Rattle.wf_guard.proofs.Apart.{apart_alike}
use Rattle.wf_guard.proofs.OutOnce.{always_once}
use Rattle.wf_guard.proofs.Sound.{always_sound}
use Rattle.wf_guard.proofs.laws.no_app_changes_what_another_sees.Goals as goal

pub returns : goal.returns
returns l form ports turns a b x m app other apart =
    apart_alike a b app other apart (after_turns (opened form ports) turns) (always_sound form ports turns)
    (always_once form ports turns) x m
