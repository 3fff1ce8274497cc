use Rattle.std.proofs.lemmas.Grind.{common_steps}
use Rattle.std.proofs.Common.{◌≡◌, Ok, refl, set, sym, ap, subst, arith}
use Rattle.std.proofs.Math.Facts.{to_z-of_z}
use Rattle.wf_model.specs.DisplaySides.{on_display}
use Rattle.wf_model.specs.Pipelines.{named_port, pipe_bind_port, with_port_of}
use Rattle.wf_display.specs.Does.{Does}
use Rattle.wf_display.proofs.AttributesSet.{pipeline_is, pipeline_set, read_at, stays}
use Rattle.wf_display.proofs.display.Display.try_pipe_bind_port.Goals as goal

pub returns : goal.returns
returns c =
    let a = c.args in
    let place = c.in_ok-place.place in
    let here = rw (to_z-of_z c.ranges.pipe) at c.in_ok-place.ensures.place in
    let pipelines = ap (λ d. d.pipelines) c.self.view_is in
    let x = c.index_mut.result.now in
    let at = read_at _ a.self.now.pipelines place x pipelines here.within c.index_mut.ensures.value in
    let named : named_port a.port a.self.now ≡ Ok c.in_ok-port.port = sym (rw (to_z-of_z c.ranges.port) at c.in_ok-port.ensures) in
    let y = with_port_of c.in_ok-port.port x in
    subst (λ k. Does (λ _. on_display (pipe_bind_port a.pipe a.port)) a.self.now
    (record k { pipelines = set k.pipelines place y }) a.store.now
    a.store.now (Ok 0)) (sym c.self.view_is)
    (pipeline_set a.self.now a.store.now c.requires a.pipe place x here at (pipe_bind_port a.pipe a.port) y
    (rw (pipeline_is a.self.now a.store.now c.requires a.pipe place x here at, named) refl) (λ shows. shows) refl)

pub returns-in_err-place : goal.returns-in_err-place
returns-in_err-place c = stays _ _ _ _ (grind (arith, common_steps)) c.requires

pub returns-in_err-port : goal.returns-in_err-port
returns-in_err-port c = stays _ _ _ _ (grind (arith, common_steps)) c.requires
