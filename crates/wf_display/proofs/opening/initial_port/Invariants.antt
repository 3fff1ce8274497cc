use Rattle.std.proofs.Common.{◌≡◌, length, take}
use Rattle.wf_display.proofs.opening.initial_port.Given as goal

-- the sizes so far
abbrev pub invariant-loop-size : goal.invariant-loop-size
invariant-loop-size l = record {
  sizes : l.sizes.items ≡ take l.size-index l.modes.sizes.items;
  room : length l.sizes.items ≡ l.size-index;
}
