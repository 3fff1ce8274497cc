use Rattle.std.proofs.Common.{◌+◌, ◌*◌, ◌≤◌, flat_map, take}
use Rattle.wf_script.specs.Canonical.{port_text}
use Rattle.wf_script.specs.Text.{Adds, extent}
use Rattle.wf_script.proofs.printing.add_ports.Given as goal
use Rattle.wf_script.specs.declared.TheConstants.{WORD_ROOM}

abbrev pub invariant-loop-modes : goal.invariant-loop-modes
invariant-loop-modes g l = record {
  adds : Adds g.K.Sink.took g.K.Sink.faults l.initial.text l.initial.k l.text l.k
      (flat_map port_text (take l.modes-index l.ports));
  most : extent l.text ≤ extent l.initial.text + 8 * WORD_ROOM * l.modes-index;
}
