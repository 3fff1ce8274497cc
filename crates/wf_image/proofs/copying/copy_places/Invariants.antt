use Rattle.std.proofs.Common.{◌≡◌, ◌++◌, take, drop}
use Rattle.wf_image.proofs.copying.copy_places.Given as goal

-- the places so far are copied, and the others are as they were
abbrev pub invariant-loop-i : goal.invariant-loop-i
invariant-loop-i l = l.places ≡ take l.i l.from ++ drop l.i l.fn.places
