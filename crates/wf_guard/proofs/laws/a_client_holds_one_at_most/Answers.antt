use Rattle.wf_guard.specs.LiveStreams.{after_turns, opened}
use Rattle.wf_guard.proofs.OneEach.{always_one, left_none, none_held}
use Rattle.wf_host.specs.Held.{without}
use Rattle.wf_guard.proofs.laws.a_client_holds_one_at_most.Goals as goal

pub returns : goal.returns
returns l form ports turns client =
    let v = after_turns (opened form ports) turns in
    none_held client (without client v.held) (left_none client v.held (always_one client form ports turns))
