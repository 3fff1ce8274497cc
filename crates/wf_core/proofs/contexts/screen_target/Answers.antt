use Rattle.std.proofs.Common.{◌≡◌, ◌∙◌, true, Err, sym, ap}
use Rattle.std.proofs.Math.Facts.{to_z-of_z}
use Rattle.wf_words.specs.Whole.{count_of}
use Rattle.wf_model.specs.Core.{has_port}
use Rattle.wf_objects.specs.Sides.{core_side_of}
use Rattle.wf_core.proofs.Screens.{port_used, screen_is, screen_kept}
use Rattle.wf_core.proofs.contexts.screen_target.Goals as goal

pub returns-clause-kept : goal.returns-clause-kept
returns-clause-kept c =
    let a = c.args in
    let seen = c.in_ok-target.target in
    screen_kept a.screen a.store.now.streams seen (screen_is a.screen a.store.now.streams seen c.in_ok-target.ensures) c.requires.pixels

pub returns-then-has_port-clause-asks : goal.returns-then-has_port-clause-asks
returns-then-has_port-clause-asks c = λ m.
    let a = c.args in
    let seen = c.in_ok-target.target in
    let w = core_side_of a.objects.now a.store.now in
    let number = rw (to_z-of_z c.ranges.port) at c.port_number-port.ensures.number in
    let used : has_port (count_of a.port) w ≡ true = ap (λ n. has_port n w) (sym number) ∙ sym c.has_port.ensures ∙ c.if-has_port.true in
    port_used a.device a.port a.screen a.objects.now a.store.now seen c.in_ok-check_device.ensures
    (screen_is a.screen a.store.now.streams seen c.in_ok-target.ensures) used m
    ∙ ap (λ r. Err r) (sym c.of.ensures)

pub returns-clause-live : goal.returns-clause-live
returns-clause-live c = sym c.in_ok-check_device.ensures
