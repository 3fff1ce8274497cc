use Rattle.wf_objects.specs.Does.{stays}
use Rattle.std.proofs.Common.{rules}
use Rattle.std.proofs.Common.{Ok, refl}
use Rattle.wf_words.specs.Places.{within}
use Rattle.wf_scene.specs.Cached as cached
use Rattle.wf_model.specs.Composition.{change_context, with_cached}
use Rattle.wf_objects.specs.Does.{Step, in_owner, in_place}
use Rattle.wf_core.proofs.ObjectsDestroyed.{destroys}
use Rattle.wf_core.proofs.elements.try_element_destroy.Goals as goal

pub returns-in_err-place : goal.returns-in_err-place
returns-in_err-place c = stays _ c.args.objects.now c.args.store.now _ c.requires (search rules)

pub returns : goal.returns
returns c =
    let a = c.args in
    let core = a.objects.now in
    let store = a.store.now in
    let now = c.drop_element.new.store in
    let left = c.drop_element.new.self in
    let here = c.in_ok-place in
    let x = within core.contexts here.place here.ensures.within in
    let drops = c.drop_element.ensures in
    let gone : Step =
    λ handle m y w. Ok (record w { core = change_context handle (with_cached (cached.forget a.element y.cached)) w.core }, 0) in
    in_owner here.place gone core left store now (Ok 0)
    (destroys (in_place here.place gone) core left (change_context x.0.handle (with_cached (cached.forget a.element x.0.cached)) core) store
    now (rw x.1 at drops.dropped) drops.loses drops.names drops.fits (λ m. rw x.1 refl))
    a.device a.element here.ensures.found
