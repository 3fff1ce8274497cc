use Rattle.std.proofs.Common.{◌≡◌, ◌+◌, drop}
use Rattle.wf_model.specs.DisplayCommits.{fault_from}
use Rattle.wf_display.proofs.display.Display.first_fault.Given as goal

-- the first fault of all is that of the pipelines that were not passed
abbrev pub invariant-loop-place : goal.invariant-loop-place
invariant-loop-place l =
    fault_from l.extent l.store.streams l.self.sources 1 l.self.pipelines
    ≡ fault_from l.extent l.store.streams l.self.sources (1 + l.place) (drop l.place l.self.pipelines)
