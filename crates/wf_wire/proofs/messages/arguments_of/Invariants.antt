use Rattle.std.proofs.Common.{◌≡◌, ◌≤◌, ◌+◌, ◌*◌, drop, length}
use Rattle.wf_wire.specs.Messages.{argument}
use Rattle.wf_wire.proofs.Eaches.{GoesOn}
use Rattle.wf_wire.proofs.messages.arguments_of.Given as goal

-- reading goes on from here as from the start, behind the arguments that were read
abbrev pub invariant-loop-kind : goal.invariant-loop-kind
invariant-loop-kind g l = record {
  so_far : GoesOn argument (g.I.Source.left l.initial.input) l.initial.at (g.I.Source.left l.input) l.at l.bits.items l.kinds
      (drop l.kind-index l.kinds);
  many : length l.bits.items ≡ l.kind-index;
  least : l.initial.at ≤ l.at;
  most : l.at ≤ l.initial.at + 8 * l.kind-index;
  later : g.I.Source.faults l.initial.input ≤ g.I.Source.faults l.input;
}
