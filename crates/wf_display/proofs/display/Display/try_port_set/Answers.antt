use Rattle.std.proofs.lemmas.Grind.{common_steps}
use Rattle.std.proofs.Common.{◌≡◌, ◌∙◌, Ok, refl, set, sym, ap, subst, arith, Err, rules}
use Rattle.std.proofs.Math.Facts.{to_z-of_z}
use Rattle.wf_model.specs.DisplaySides.{on_display}
use Rattle.wf_model.specs.Ports.{port_set, port_styled, with_style}
use Rattle.wf_display.specs.Does.{Does}
use Rattle.wf_display.proofs.AttributesSet.{port_is, port_set as sets, read_at, read_twice, stays, refuses}
use Rattle.wf_display.proofs.display.Display.try_port_set.Goals as goal

pub returns : goal.returns
returns c =
    let a = c.args in
    let place = c.in_ok-place.place in
    let here = rw (to_z-of_z c.ranges.port) at c.in_ok-place.ensures.place in
    let ports = ap (λ d. d.ports) c.self.view_is in
    let x = c.index_mut.result.now in
    let at = read_at _ a.self.now.ports place x ports here.within c.index_mut.ensures.value in
    let same = read_twice _ a.self.now.ports place c.index.result.now x ports here.within c.index.ensures c.index_mut.ensures.value in
    let styled : port_styled a.attr a.value x ≡ Ok c.in_ok-style.style =
    ap (port_styled a.attr a.value) (sym same) ∙ sym (c.in_ok-style.ensures) in
    let y = with_style c.in_ok-style.style x in
    subst (λ k. Does (λ _. on_display (port_set a.port a.attr a.value)) a.self.now (record k { ports = set k.ports place y }) a.store.now
    a.store.now (Ok 0)) (sym c.self.view_is)
    (sets a.self.now a.store.now c.requires a.port place x here at (port_set a.port a.attr a.value) y
    (rw (port_is a.self.now a.store.now c.requires a.port place x here at, styled) refl) refl)

pub returns-in_err-place : goal.returns-in_err-place
returns-in_err-place c = stays _ _ _ _ (grind (arith, common_steps)) c.requires

pub returns-in_err-style : goal.returns-in_err-style
returns-in_err-style c =
    let a = c.args in
    let d = a.self.now in
    let place = c.in_ok-place.place in
    let here = rw (to_z-of_z c.ranges.port) at c.in_ok-place.ensures.place in
    let x = c.index.result.now in
    let at = read_at _ d.ports place x (ap (λ k. k.ports) c.self.view_is) here.within c.index.ensures in
    let styled : port_styled a.attr a.value x ≡ Err c.in_err-style.field-0.0 = sym (c.in_err-style.ensures) in
    let same : c.from_residual-in_err-style.result ≡ Err c.in_err-style.field-0.0 = search rules in
    rw same (refuses (port_set a.port a.attr a.value) d a.store.now c.in_err-style.field-0.0
    (rw (port_is d a.store.now c.requires a.port place x here at, styled) refl) c.requires)
