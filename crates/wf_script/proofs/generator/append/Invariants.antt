use Rattle.std.proofs.Common.{◌≡◌, ◌++◌}
use Rattle.wf_script.proofs.generator.append.Given as goal

-- the lines so far stand behind those that were there
abbrev pub invariant-loop-line : goal.invariant-loop-line
invariant-loop-line g l = l.lines.items ≡ l.initial.lines.items ++ l.yielded
