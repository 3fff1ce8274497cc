use Rattle.std.proofs.Math.Facts.{to_z-of_z}
use Rattle.std.specs.Option.{ok_or}
use Rattle.wf_scene.specs.Values.{at_index}
use Rattle.wf_model.specs.DisplaySides.{on_display}
use Rattle.wf_model.specs.Outcome.{done_by}
use Rattle.wf_model.specs.Ports.{port_get, port_numbers}
use Rattle.wf_display.specs.Sides.{display_side_of}
use Rattle.std.proofs.Common.{arith, ◌≡◌, ◌∙◌, ap, sym}
use Rattle.wf_display.proofs.AttributesSet.{stays, port_is, read_at, told}
use Rattle.std.proofs.lemmas.Grind.{common_steps}
use Rattle.wf_display.proofs.display.Display.try_port_get.Goals as goal

pub returns-in_err-place : goal.returns-in_err-place
returns-in_err-place c = stays _ _ _ _ (grind (arith, common_steps)) c.requires

pub returns : goal.returns
returns c =
    let a = c.args in
    let d = a.self.now in
    let place = c.in_ok-place.place in
    let here = rw (to_z-of_z c.ranges.port) at c.in_ok-place.ensures.place in
    let x = c.index.result.now in
    let at = read_at _ d.ports place x (ap (λ k. k.ports) c.self.view_is) here.within c.index.ensures in
    let number : at_index a.index (port_numbers a.attr x) ≡ c.number.result = sym (rw (to_z-of_z c.ranges.index) at c.number.ensures) in
    stays (λ _. on_display (port_get a.port a.attr a.index)) d a.store.now c.ok_or.result
    (rw (port_is d a.store.now c.requires a.port place x here at, number)
    (told d a.store.now c.number.result
    ∙ ap (λ r. done_by r (display_side_of d a.store.now)) (sym (c.ok_or.ensures.value ∙ ap (ok_or c.number.result) c.of.ensures))))
    c.requires
