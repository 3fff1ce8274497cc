use Rattle.wf_guard.specs.LiveStreams.{after_turns, opened}
use Rattle.wf_guard.proofs.HeldApart.{held_apart}
use Rattle.wf_guard.proofs.OutOnce.{always_once}
use Rattle.wf_guard.proofs.laws.no_two_draw_on_one_stream.Goals as goal

pub returns : goal.returns
returns l form ports turns a b one two apart first second =
    held_apart a b apart one two (after_turns (opened form ports) turns).held (always_once form ports turns).apart first second
