use Rattle.wf_objects.specs.Does.{stays}
use Rattle.std.proofs.Common.{rules}
use Rattle.wf_model.specs.Core.{context_destroy, without_context}
use Rattle.wf_objects.specs.Owners.{past_context}
use Rattle.wf_core.proofs.ObjectsDestroyed.{destroys}
use Rattle.wf_core.proofs.contexts.try_context_destroy.Goals as goal

pub returns-in_err-place : goal.returns-in_err-place
returns-in_err-place c = stays _ c.args.objects.now c.args.store.now _ c.requires.fits (search rules)

pub returns : goal.returns
returns c =
    let a = c.args in
    let core = a.objects.now in
    let store = a.store.now in
    let here = c.in_ok-place in
    let drops = c.drop_context.ensures in
    destroys (λ _. context_destroy a.device a.context) core c.drop_context.new.self (without_context a.context core) store
    c.drop_context.new.store drops.dropped drops.loses drops.names drops.fits
    (λ m. past_context a.device a.context here.place core store _ here.ensures.found here.ensures.within)
