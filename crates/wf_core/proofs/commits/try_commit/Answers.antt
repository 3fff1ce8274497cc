use Rattle.wf_words.specs.Places.{within}
use Rattle.wf_core.proofs.SceneCommitted.{commit_refused, commit_taken, scene_fits}
use Rattle.wf_objects.specs.Does.{stays}
use Rattle.std.proofs.Common.{rules}
use Rattle.wf_core.proofs.commits.try_commit.Goals as goal

pub returns-in-Err : goal.returns-in-Err
returns-in-Err c =
    let a = c.args in
    let p = c.in_ok-place in
    let x = within a.objects.now.contexts p.place p.ensures.within in
    commit_refused a.objects.now a.store.now c.requires.fits p.place x.0 x.1 _ (rw x.1 at c.cached.ensures) a.device a.context
    p.ensures.found p.ensures.here c.in-Err.refused c.in-Err.ensures.scene

pub set_committed-requires-clause-scene_fits : goal.set_committed-requires-clause-scene_fits
set_committed-requires-clause-scene_fits c =
    let a = c.args in
    let p = c.in_ok-place in
    let x = within a.objects.now.contexts p.place p.ensures.within in
    rw x.1 (scene_fits a.objects.now a.store.now c.requires.fits p.place x.0 x.1 _ (rw x.1 at c.cached.ensures) c.in-Ok.scene
    c.in-Ok.ensures.scene c.in-Ok.ensures.placed)

pub returns : goal.returns
returns c =
    let a = c.args in
    let p = c.in_ok-place in
    let x = within a.objects.now.contexts p.place p.ensures.within in
    commit_taken a.objects.now a.store.now c.requires.fits p.place x.0 x.1 _ (rw x.1 at c.cached.ensures) a.device a.context
    p.ensures.found p.ensures.here c.in-Ok.scene c.in-Ok.ensures.scene _ c.set_committed.new.store c.set_committed.ensures

pub returns-in_err-place : goal.returns-in_err-place
returns-in_err-place c = stays _ c.args.objects.now c.args.store.now _ c.requires.fits (search rules)
