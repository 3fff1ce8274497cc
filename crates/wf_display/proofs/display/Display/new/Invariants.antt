use Rattle.std.proofs.Common.{◌≡◌, ◌≤◌, length, map, take, vec_capacity}
use Rattle.wf_model.specs.State.{initial_port}
use Rattle.wf_display.specs.Opening.{with_screens}
use Rattle.wf_display.proofs.display.Display.new.Given as goal

-- the ports so far, with their screens
abbrev pub invariant-loop-modes : goal.invariant-loop-modes
invariant-loop-modes l = record {
  opened : l.opened.items ≡ map initial_port (take l.modes-index l.modes-items);
  many : length l.opened.items ≡ l.modes-index;
  screens : l.store ≡ with_screens (take l.modes-index l.modes-items);
  room : length l.modes-items ≤ vec_capacity l.opened;
}
