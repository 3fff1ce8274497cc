use Rattle.std.proofs.Common.{◌≡◌, take}
use Rattle.wf_names.specs.Keys.{number_of}
use Rattle.wf_names.proofs.number_of.Given as goal

-- the number of the letters that were passed
abbrev pub invariant-loop-letter : goal.invariant-loop-letter
invariant-loop-letter l = l.number ≡ number_of (take l.letter-index l.name)
