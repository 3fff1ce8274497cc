use Rattle.std.proofs.Common.{◌≡◌, ◌∙◌, ◌<◌, ◌≤◌, length, sym, ap, arith}
use Rattle.std.proofs.lemmas.Bool.Decides.{nat_tests}
use Rattle.wf_script.specs.Items.{behind}
use Rattle.wf_script.proofs.HexRow.{no_pixel, pixel_more, pixels_end, too_short}
use Rattle.wf_script.proofs.hex.hex_pixels.Goals as goal

pub returns-in_default : goal.returns-in_default
returns-in_default c =
    let some : 0 < length c.loop-rest.rest.now = grind (arith, nat_tests) in
    sym c.loop-rest.invariant ∙ ap (behind c.loop-rest.pixels.items) (too_short c.loop-rest.rest.now some c.in_default.ensures.cases)

pub loop-rest-preserved : goal.loop-rest-preserved
loop-rest-preserved c =
    let cases = c.in-Some.ensures.cases in
    let long : 8 ≤ length c.loop-rest.rest.now = omega (arith, cases.2) in
    rw c.in_ok-push-in-Ok.ensures.items
    (sym (pixel_more c.loop-rest.pixels.items c.loop-rest.rest.now c.in-Some.digits.now c.in-Some.behind.now c.in-Ok.pixel long cases.0
    cases.1 (sym c.in-Ok.ensures)) ∙ c.loop-rest.invariant)

pub returns-in-Err : goal.returns-in-Err
returns-in-Err c =
    let cases = c.in-Some.ensures.cases in
    let long : 8 ≤ length c.loop-rest.rest.now = omega (arith, cases.2) in
    sym c.loop-rest.invariant ∙ no_pixel c.loop-rest.pixels.items c.loop-rest.rest.now c.in-Some.digits.now c.in-Err.rule long cases.0
    (sym c.in-Err.ensures)

pub returns : goal.returns
returns c =
    let none : length c.loop-rest.rest.now ≡ 0 = grind (arith, nat_tests) in
    rw c.new.ensures (sym c.loop-rest.invariant ∙ pixels_end c.loop-rest.pixels.items c.loop-rest.rest.now none)
