use Rattle.std.proofs.Common.{◌∙◌, ap}
use Rattle.wf_model.specs.Composition.{by_handle, seen_stream}
use Rattle.wf_core.proofs.StreamsSeen.{seen_again}
use Rattle.wf_core.proofs.streams.seen_by_handle.Goals as goal

pub returns-in-Ok-clause-seen : goal.returns-in-Ok-clause-seen
returns-in-Ok-clause-seen c =
    c.seen_by_number.ensures
    ∙ ap seen_stream (by_handle _ c.in-Ok.number _ _ c.in-Ok.ensures.numbered c.in-Ok.ensures.number)

pub returns-in-Ok-clause-kept : goal.returns-in-Ok-clause-kept
returns-in-Ok-clause-kept c = seen_again c.in-Ok.number _ _ c.seen_by_number.ensures
