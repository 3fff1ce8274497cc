use Rattle.wf_guard.specs.LiveStreams.{after_turns, opened}
use Rattle.wf_guard.proofs.OwnCanvases.{always_own, own_stream}
use Rattle.wf_guard.proofs.laws.an_app_holds_its_own.Goals as goal

pub returns : goal.returns
returns l form ports turns a canvas s app holds found live =
    own_stream a (after_turns (opened form ports) turns) (always_own a app form ports turns) canvas s holds found live
