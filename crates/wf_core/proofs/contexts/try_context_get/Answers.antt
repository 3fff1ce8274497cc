use Rattle.wf_objects.specs.Does.{stays}
use Rattle.std.proofs.Common.{rules}
use Rattle.std.proofs.Math.Facts.{to_z-of_z}
use Rattle.wf_words.specs.Places.{within}
use Rattle.wf_scene.specs.Cached as cached
use Rattle.wf_objects.specs.Does.{in_owned, reads, scene_read}
use Rattle.wf_core.proofs.contexts.try_context_get.Goals as goal

pub returns-in_err-place : goal.returns-in_err-place
returns-in_err-place c = stays _ c.args.objects.now c.args.store.now _ c.requires (search rules)

pub returns : goal.returns
returns c =
    let a = c.args in
    let core = a.objects.now in
    let store = a.store.now in
    let here = c.in_ok-place in
    let x = within core.contexts here.place here.ensures.within in
    let call = cached.get_context a.attr a.index in
    let told = rw (rw (to_z-of_z c.ranges.index) at c.get_context.ensures) at c.by_scene.ensures in
    in_owned here.place (scene_read call) core core store store c.by_scene.result
    (reads here.place core store call _ _ c.requires x.0 x.1 (rw x.1 at c.cached.ensures) told)
    a.device a.context here.ensures.found here.ensures.here
