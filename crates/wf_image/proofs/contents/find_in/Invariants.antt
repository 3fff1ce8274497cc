use Rattle.std.proofs.Common.{◌≡◌, ◌==◌, take, None}
use Rattle.std.specs.Prelude.{find}
use Rattle.wf_image.specs.Contents.{somes}
use Rattle.wf_image.proofs.contents.find_in.Given as goal

-- no pair so far has the number
abbrev pub invariant-loop-at : goal.invariant-loop-at
invariant-loop-at l = find (λ pair. pair.0 == l.stream) (somes (take l.at l.pairs)) ≡ None
