use Rattle.wf_guard.specs.LiveStreams.{after_turns, opened}
use Rattle.wf_guard.proofs.Foreign.{stays_as_it_was}
use Rattle.wf_guard.proofs.Numbered.{always_apart}
use Rattle.wf_guard.proofs.OwnCanvases.{always_own}
use Rattle.wf_guard.proofs.laws.no_app_touches_a_foreign_stream.Goals as goal

pub returns : goal.returns
returns l form ports turns a x m n s app found live foreign =
    stays_as_it_was (after_turns (opened form ports) turns) a app n s found (always_apart form ports turns) foreign live
    (always_own a app form ports turns) m x
