use Rattle.wf_machine.proofs.Common.{◌≡◌, ◌≤◌, take, length, vec_capacity, HoldsBut}
use Rattle.wf_machine.proofs.port.Port.new.Given as goal

-- the modes so far, each with its image
abbrev pub invariant-loop-size : goal.invariant-loop-size
invariant-loop-size l = record {
  modes : l.modes.items ≡ take l.size-index l.sizes;
  images : HoldsBut 0 l.modes.items l.images.items;
  many : length l.images.items ≡ l.size-index;
  room : length l.sizes ≤ vec_capacity l.images;
}
