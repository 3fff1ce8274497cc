use Rattle.wf_machine.proofs.Common.{◌≡◌, true, take, list_all, image_of, has_shape}
use Rattle.wf_machine.proofs.frame.has_all.Given as goal

-- the shapes so far have their images
abbrev pub invariant-loop-shape : goal.invariant-loop-shape
invariant-loop-shape l = list_all (λ c. has_shape (image_of c.stream l.contents) c) (take l.shape-index l.shapes) ≡ true
