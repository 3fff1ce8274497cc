use Rattle.std.proofs.Common.{◌≡◌, ◌^◌, ◌<◌, refl, arith}
use Rattle.wf_script.specs.Text.{extent}
use Rattle.wf_script.proofs.Additions.{ends_all}
use Rattle.wf_script.proofs.Tokens.{script_adds}
use Rattle.wf_script.proofs.printing.print.Goals as goal

pub returns : goal.returns
returns g c =
    let text = script_adds g.K.Sink.took g.K.Sink.faults c.args.script.now _ _ _ _ _ _ _ _ _ _ _ _ c.add.ensures.adds
    (rw (c.as_slice.ensures.value, c.ports-ports.ensures.ports) at c.add_ports.ensures.adds)
    (rw c.ports-ports.ensures.ports at c.add_pipes.ensures.adds) (rw c.lines.ensures.lines at c.add_lines.ensures.adds)
    c.add-2.ensures.adds in
    let empty : extent c.new-text.result ≡ 0 = rw (c.new-text.ensures.written, c.new-text.ensures.waiting) refl in
    let few : extent c.add-2.new.self < 2 ^ 63 =
    omega (
      arith,
      c.add.ensures.most,
      c.add_ports.ensures.most,
      c.add_pipes.ensures.most,
      c.add_lines.ensures.most,
      c.add-2.ensures.most,
      c.as_slice.ensures.fits,
      c.lines.ensures.few,
    ) in
    let last = ends_all g.K.Sink.took g.K.Sink.faults _ _ _ _ _ _ _ c.new-text.ensures.waiting c.new-text.ensures.written
    c.new-text.ensures.going text few c.finish.ensures in
    record { all = last.all; part = last.part; cause = last.cause }
