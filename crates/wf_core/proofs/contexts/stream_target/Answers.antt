use Rattle.std.proofs.Common.{◌∙◌, Err, sym, ap}
use Rattle.wf_core.proofs.StreamsSeen.{context_is, drawable_kept, target_used}
use Rattle.wf_core.proofs.contexts.stream_target.Goals as goal

pub returns-clause-kept : goal.returns-clause-kept
returns-clause-kept c = drawable_kept _ _ c.in-Some.ensures.kept (sym c.is_drawable.ensures ∙ c.if-not-is_drawable.false)

pub returns-clause-asks : goal.returns-clause-asks
returns-clause-asks c =
    let a = c.args in
    context_is a.device a.stream a.objects.now a.store.now c.in-Some.target c.in_ok-check_device.ensures c.in-Some.ensures.seen
    (sym c.is_drawable.ensures ∙ c.if-not-is_drawable.false) (sym c.has_target.ensures ∙ c.if-has_target.false)

pub returns-then-has_target-clause-asks : goal.returns-then-has_target-clause-asks
returns-then-has_target-clause-asks c = λ m.
    let a = c.args in
    target_used a.device a.stream a.objects.now a.store.now c.in-Some.target c.in_ok-check_device.ensures c.in-Some.ensures.seen
    (sym c.is_drawable.ensures ∙ c.if-not-is_drawable.false) (sym c.has_target.ensures ∙ c.if-has_target.true) m
    ∙ ap (λ r. Err r) (sym c.of-then-has_target.ensures)

pub returns-clause-live : goal.returns-clause-live
returns-clause-live c = sym c.in_ok-check_device.ensures
