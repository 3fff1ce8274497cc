use Rattle.std.proofs.Common.{◌+◌, ◌*◌, ◌≤◌, flat_map, take}
use Rattle.wf_script.specs.Canonical.{event_text}
use Rattle.wf_script.specs.Text.{Adds, extent}
use Rattle.wf_script.proofs.printing.add_lines.Given as goal
use Rattle.wf_script.specs.declared.TheConstants.{WORD_ROOM}

abbrev pub invariant-loop-line : goal.invariant-loop-line
invariant-loop-line g l = record {
  adds : Adds g.K.Sink.took g.K.Sink.faults l.initial.text l.initial.k l.text l.k
      (flat_map event_text (take l.line-index l.lines));
  most : extent l.text ≤ extent l.initial.text + 32 * WORD_ROOM * l.line-index;
}
