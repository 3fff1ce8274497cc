use Rattle.std.proofs.lemmas.Grind.{common_steps}
use Rattle.std.proofs.Common.{◌≡◌, Ok, refl, set, sym, ap, subst, arith, Err, rules}
use Rattle.std.proofs.Math.Facts.{to_z-of_z}
use Rattle.wf_model.specs.DisplaySides.{on_display}
use Rattle.wf_model.specs.Pipelines.{may_bind, pipe_bind_source, with_request}
use Rattle.wf_display.specs.Does.{Does}
use Rattle.wf_display.proofs.AttributesSet.{pipeline_is, pipeline_set, read_at, stays, refuses, some_pipeline}
use Rattle.wf_display.proofs.display.Display.try_pipe_bind_source.Goals as goal

pub returns : goal.returns
returns c =
    let a = c.args in
    let place = c.in_ok-place.place in
    let here = rw (to_z-of_z c.ranges.pipe) at c.in_ok-place.ensures.place in
    let pipelines = ap (λ d. d.pipelines) c.self.view_is in
    let x = c.index_mut.result.now in
    let at = read_at _ a.self.now.pipelines place x pipelines here.within c.index_mut.ensures.value in
    let may : may_bind a.pipe a.source a.self.now ≡ Ok c.in_ok-may_bind.field-0 = sym (rw
    (to_z-of_z c.ranges.pipe) at c.in_ok-may_bind.ensures) in
    let y = with_request a.source a.transition x in
    subst (λ k. Does (λ _. on_display (pipe_bind_source a.pipe a.source a.transition)) a.self.now
    (record k { pipelines = set k.pipelines place y }) a.store.now
    a.store.now (Ok 0)) (sym c.self.view_is)
    (pipeline_set a.self.now a.store.now c.requires a.pipe place x here at (pipe_bind_source a.pipe a.source a.transition) y
    (rw (pipeline_is a.self.now a.store.now c.requires a.pipe place x here at, may) refl) (λ shows. shows) refl)

pub returns-in_err-place : goal.returns-in_err-place
returns-in_err-place c = stays _ _ _ _ (grind (arith, common_steps)) c.requires

pub returns-in_err-may_bind : goal.returns-in_err-may_bind
returns-in_err-may_bind c =
    let a = c.args in
    let d = a.self.now in
    let x = some_pipeline d a.pipe c.in_ok-place.place (rw (to_z-of_z c.ranges.pipe) at c.in_ok-place.ensures.place) in
    let refused : may_bind a.pipe a.source d ≡ Err c.in_err-may_bind.field-0.0 =
    sym (rw (to_z-of_z c.ranges.pipe) at c.in_err-may_bind.ensures) in
    let same : c.from_residual-in_err-may_bind.result ≡ Err c.in_err-may_bind.field-0.0 = search rules in
    rw same (refuses (pipe_bind_source a.pipe a.source a.transition) d a.store.now c.in_err-may_bind.field-0.0
    (rw (x.1, refused) refl) c.requires)
