use Rattle.std.proofs.Common.{◌≡◌, ◌++◌}
use Rattle.wf_script.specs.Generator.{rounds, setup}
use Rattle.wf_script.proofs.generator.make.Given as goal

abbrev pub invariant-loop-number : goal.invariant-loop-number
invariant-loop-number l = l.lines.items ≡ setup ++ rounds l.number
