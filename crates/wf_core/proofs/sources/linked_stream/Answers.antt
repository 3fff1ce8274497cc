use Rattle.std.proofs.Common.{◌∙◌, ◌==◌, eq-eqb, sym}
use Rattle.wf_words.specs.Found.{any_at}
use Rattle.wf_words.specs.Places.{within}
use Rattle.wf_core.proofs.StreamsSeen.{link_is}
use Rattle.wf_core.proofs.sources.linked_stream.Goals as goal

pub returns-clause-asks : goal.returns-clause-asks
returns-clause-asks c =
    let a = c.args in
    let here = c.in_ok-context_place in
    link_is a.mask a.device a.context a.stream here.field-0 a.objects.now a.store.now c.in-Some.seen here.ensures.found here.ensures.within
    c.in-Some.ensures.seen (sym c.is_unfit.ensures ∙ c.if-is_unfit.false)

pub returns-clause-live : goal.returns-clause-live
returns-clause-live c =
    let a = c.args in
    let here = c.in_ok-context_place in
    let x = within a.objects.now.contexts here.field-0 here.ensures.within in
    any_at (λ y. y.handle == a.context) a.objects.now.contexts here.field-0 x.0 x.1
    (eq-eqb x.0.handle a.context (rw x.1 at here.ensures.here))
