use Rattle.wf_machine.proofs.Common.{◌≡◌, ◌≤◌, length, take, vec_capacity}
use Rattle.wf_machine.proofs.MachineOpened.{HaveImages}
use Rattle.wf_machine.proofs.parts.images_of.Given as goal

-- the ports so far have their images
abbrev pub invariant-loop-modes : goal.invariant-loop-modes
invariant-loop-modes l = record {
  so_far : HaveImages l.images.items (take l.modes-index l.modes-items);
  many : length l.images.items ≡ l.modes-index;
  room : length l.modes-items ≤ vec_capacity l.images;
}
