use Rattle.std.proofs.lemmas.Grind.{common_steps}
use Rattle.std.proofs.Common.{◌≡◌, Ok, Some, refl, set, sym, ap, subst, arith, Err, None}
use Rattle.std.proofs.Math.Facts.{to_z-of_z}
use Rattle.wf_model.specs.DisplaySides.{on_display}
use Rattle.wf_model.specs.Ports.{attach, with_attached}
use Rattle.wf_scene.specs.Values.{flag_of}
use Rattle.wf_display.specs.Does.{Does}
use Rattle.wf_display.proofs.AttributesSet.{port_is, port_set as sets, read_at, stays, refuses, some_port}
use Rattle.wf_display.proofs.display.Display.try_attach.Goals as goal

pub returns : goal.returns
returns c =
    let a = c.args in
    let place = c.in_ok-place.place in
    let here = rw (to_z-of_z c.ranges.port) at c.in_ok-place.ensures.place in
    let ports = ap (λ d. d.ports) c.self.view_is in
    let x = c.index_mut.result.now in
    let at = read_at _ a.self.now.ports place x ports here.within c.index_mut.ensures.value in
    let flag : flag_of a.on ≡ Some c.in-Some.attached = sym (rw (to_z-of_z c.ranges.on) at c.in-Some.ensures) in
    let y = with_attached c.in-Some.attached x in
    subst (λ k. Does (λ _. on_display (attach a.port a.on)) a.self.now (record k { ports = set k.ports place y }) a.store.now
    a.store.now (Ok 0)) (sym c.self.view_is)
    (sets a.self.now a.store.now c.requires a.port place x here at (attach a.port a.on) y
    (rw (port_is a.self.now a.store.now c.requires a.port place x here at, flag) refl) refl)

pub returns-in_err-place : goal.returns-in_err-place
returns-in_err-place c = stays _ _ _ _ (grind (arith, common_steps)) c.requires

pub returns-in_default : goal.returns-in_default
returns-in_default c =
    let a = c.args in
    let d = a.self.now in
    let x = some_port d a.port c.in_ok-place.place (rw (to_z-of_z c.ranges.port) at c.in_ok-place.ensures.place) in
    let none : flag_of a.on ≡ None = sym (rw (to_z-of_z c.ranges.on) at c.in_default.ensures) in
    refuses (attach a.port a.on) d a.store.now c.of.result (rw (x.1, none) (ap Err (sym c.of.ensures))) c.requires
