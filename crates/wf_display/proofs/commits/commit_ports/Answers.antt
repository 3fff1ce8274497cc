use Rattle.std.proofs.Common.{arith, ap, sym, ◌∙◌, ◌≡◌, ℕ, ◌+◌, get_or}
use Rattle.std.specs.Prelude.{if◌then◌else◌}
use Rattle.wf_model.specs.declared.display.Port.{Port}
use Rattle.wf_model.specs.DisplayCommits.{committed_port, takes_port}
use Rattle.wf_model.specs.Numbered.{from_step}
use Rattle.wf_display.proofs.AttributesSet.{same_default}
use Rattle.wf_display.proofs.commits.commit_ports.Goals as goal

pub loop-place-preserved : goal.loop-place-preserved
loop-place-preserved c =
    let taken : ℕ → Port → Port = λ n x. if takes_port c.args.extent n then committed_port x else x in
    let place = c.loop-place.place in
    let ports = c.loop-place.ports in
    let x = get_or ports place c.index-ports-place.result in
    let d = c.index-ports-place-in-loop-place.result in
    let style = c.taken_style-style.result in
    let same : get_or ports place d ≡ x = same_default ports place d c.index-ports-place.result (omega arith) in
    from_step taken 1 c.args.ports.now ports place d (record (get_or ports place d) { committed = style }) (omega arith)
    c.loop-place.invariant
    (ap (λ (p : Port). record p { committed = style }) same ∙ c.taken_style-style.ensures
    ∙ ap (taken (place + 1)) (sym same))
