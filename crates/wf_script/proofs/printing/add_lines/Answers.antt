use Rattle.std.proofs.Common.{arith, subst}
use Rattle.wf_script.specs.declared.line.Line.{Line}
use Rattle.wf_script.specs.Canonical.{event_text}
use Rattle.wf_script.specs.Text.{Adds}
use Rattle.wf_script.proofs.Additions.{adds_next}
use Rattle.wf_script.proofs.printing.add_lines.Goals as goal

pub loop-line-preserved : goal.loop-line-preserved
loop-line-preserved g c = record {
  adds = adds_next g.K.Sink.took g.K.Sink.faults event_text c.args.lines.now c.loop-line.line-index c.line-item.result _ _ _ _ _ _
      c.loop-line-test.true c.loop-line.invariant.adds
      (subst (λ (line : Line). Adds g.K.Sink.took g.K.Sink.faults c.loop-line.text c.loop-line.k c.add_line.new.text c.add_line.new.k
      (event_text line)) c.line-item.is c.add_line.ensures.adds);
  most = omega arith;
}
