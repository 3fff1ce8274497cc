use Rattle.wf_core.proofs.StreamsSeen.{seen_number}
use Rattle.wf_core.proofs.streams.seen_by_number.Goals as goal

pub returns-in-Some : goal.returns-in-Some
returns-in-Some c = seen_number _ _ c.in-Some.stream.now _ c.format.result
    c.in-Some.ensures.value c.size.ensures.size c.format.ensures
