use Rattle.std.proofs.Common.{◌≡◌, ◌++◌, drop, take}
use Rattle.std.specs.Prelude.{if◌then◌else◌}
use Rattle.wf_model.specs.Numbered.{each_from}
use Rattle.wf_model.specs.DisplayCommits.{committed_port, takes_port}
use Rattle.wf_display.proofs.commits.commit_ports.Given as goal

-- what was passed is committed where it is taken, and the rest is not yet
abbrev pub invariant-loop-place : goal.invariant-loop-place
invariant-loop-place l =
    l.ports ≡ each_from (λ p x. if takes_port l.extent p then committed_port x else x) 1 (take l.place l.initial.ports)
    ++ drop l.place l.initial.ports
