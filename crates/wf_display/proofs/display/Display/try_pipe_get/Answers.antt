use Rattle.std.proofs.lemmas.Grind.{common_steps}
use Rattle.std.proofs.Common.{◌≡◌, Err, None, ap, sym, arith, Some, refl}
use Rattle.std.proofs.Math.Facts.{to_z-of_z}
use Rattle.wf_scene.specs.Values.{at_index}
use Rattle.wf_model.specs.Pipelines.{pipe_get, pipeline_numbers}
use Rattle.wf_display.proofs.AttributesSet.{pipeline_is, read_at, refuses, stays, alone}
use Rattle.wf_display.proofs.display.Display.try_pipe_get.Goals as goal

pub returns-in-None : goal.returns-in-None
returns-in-None c =
    let a = c.args in
    let place = c.in_ok-place.place in
    let here = rw (to_z-of_z c.ranges.pipe) at c.in_ok-place.ensures.place in
    let x = c.index.result.now in
    let at = read_at _ a.self.now.pipelines place x (ap (λ d. d.pipelines) c.self.view_is) here.within c.index.ensures in
    let none : at_index a.index (pipeline_numbers a.attr x) ≡ None = sym (rw (to_z-of_z c.ranges.index) at c.in-None.ensures) in
    refuses (pipe_get a.pipe a.attr a.index) a.self.now a.store.now _
    (rw (pipeline_is a.self.now a.store.now c.requires a.pipe place x here at, none) (ap Err (sym c.of.ensures))) c.requires

pub returns-in_err-place : goal.returns-in_err-place
returns-in_err-place c = stays _ _ _ _ (grind (arith, common_steps)) c.requires

pub returns-in-Some : goal.returns-in-Some
returns-in-Some c =
    let a = c.args in
    let d = a.self.now in
    let place = c.in_ok-place.place in
    let here = rw (to_z-of_z c.ranges.pipe) at c.in_ok-place.ensures.place in
    let x = c.index.result.now in
    let at = read_at _ d.pipelines place x (ap (λ k. k.pipelines) c.self.view_is) here.within c.index.ensures in
    let some : at_index a.index (pipeline_numbers a.attr x) ≡ Some c.in-Some.number =
    sym (rw (to_z-of_z c.ranges.index) at c.in-Some.ensures) in
    alone (pipe_get a.pipe a.attr a.index) d d a.store.now c.in-Some.number
    (rw (pipeline_is d a.store.now c.requires a.pipe place x here at, some) refl) (λ n. refl) c.requires
