use Rattle.std.proofs.Common.{arith, subst}
use Rattle.wf_calls.specs.declared.ports.Modes.{Modes}
use Rattle.wf_script.specs.Canonical.{port_text}
use Rattle.wf_script.specs.Text.{Adds}
use Rattle.wf_script.proofs.Additions.{adds_next}
use Rattle.wf_script.proofs.printing.add_ports.Goals as goal

pub loop-modes-preserved : goal.loop-modes-preserved
loop-modes-preserved g c = record {
  adds = adds_next g.K.Sink.took g.K.Sink.faults port_text c.args.ports.now c.loop-modes.modes-index c.modes-item.result _ _ _ _ _ _
      c.loop-modes-test.true c.loop-modes.invariant.adds
      (subst (λ (modes : Modes). Adds g.K.Sink.took g.K.Sink.faults c.loop-modes.text c.loop-modes.k c.add_port.new.text c.add_port.new.k
      (port_text modes)) c.modes-item.is c.add_port.ensures.adds);
  most = omega arith;
}
