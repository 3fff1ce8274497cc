use Rattle.wf_objects.specs.Does.{stays}
use Rattle.std.proofs.Common.{rules}
use Rattle.std.proofs.Common.{IsTrue, subst}
use Rattle.wf_words.specs.Places.{within}
use Rattle.wf_scene.specs.Cached as cached
use Rattle.wf_objects.specs.Does.{in_owner, reads, scene_read}
use Rattle.wf_core.proofs.elements.try_element_above.Goals as goal

pub returns-in_err-place : goal.returns-in_err-place
returns-in_err-place c = stays _ c.args.objects.now c.args.store.now _ c.requires (search rules)

pub above-requires : goal.above-requires
above-requires c =
    let a = c.args in
    let x = within a.objects.now.contexts c.in_ok-place.place c.in_ok-place.ensures.within in
    subst (λ s. IsTrue (cached.has_element a.element s)) (rw x.1 at c.cached.ensures) (rw x.1 at c.in_ok-place.ensures.lives)

pub returns : goal.returns
returns c =
    let a = c.args in
    let core = a.objects.now in
    let store = a.store.now in
    let place = c.in_ok-place.place in
    let x = within core.contexts place c.in_ok-place.ensures.within in
    let call = cached.above a.element in
    in_owner place (scene_read call) core core store store c.by_scene.result
    (reads place core store call _ _ c.requires x.0 x.1 (rw x.1 at c.cached.ensures) (rw c.above.ensures at c.by_scene.ensures))
    a.device a.element c.in_ok-place.ensures.found
