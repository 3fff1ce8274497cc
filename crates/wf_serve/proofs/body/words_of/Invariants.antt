use Rattle.std.proofs.Common.{◌≡◌}
use Rattle.wf_serve.specs.Bodies.{words}
use Rattle.wf_serve.proofs.body.words_of.Given as goal

-- the numbers so far
abbrev pub invariant-loop-place : goal.invariant-loop-place
invariant-loop-place l = l.found.items ≡ words l.place l.body
