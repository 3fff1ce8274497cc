use Rattle.std.proofs.Common.{◌≡◌, ◌≤◌, ◌+◌, ◌*◌, IsTrue, drop, length}
use Rattle.std.specs.List.{list_all}
use Rattle.wf_calls.specs.PortRules.{may_have}
use Rattle.wf_wire.proofs.Eaches.{GoesOn}
use Rattle.wf_wire.proofs.Headers.{ports, units}
use Rattle.wf_wire.proofs.header.ports_of.Given as goal

-- reading goes on from here as from the start, behind the ports that were read
abbrev pub invariant-loop : goal.invariant-loop
invariant-loop g l = record {
  so_far : GoesOn ports (g.I.Source.left l.initial.input) l.initial.at (g.I.Source.left l.input) l.at l.modes.items (units l.count)
      (drop l.counter (units l.count));
  many : length l.modes.items ≡ l.counter;
  may : IsTrue (list_all may_have l.modes.items);
  most : l.at ≤ l.initial.at + 4 * l.counter;
  later : g.I.Source.faults l.initial.input ≤ g.I.Source.faults l.input;
}
