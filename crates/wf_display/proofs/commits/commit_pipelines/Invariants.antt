use Rattle.std.proofs.Common.{◌≡◌, ◌++◌, drop, take}
use Rattle.std.specs.Prelude.{if◌then◌else◌}
use Rattle.wf_model.specs.Numbered.{each_from}
use Rattle.wf_model.specs.DisplayCommits.{committed_pipeline, takes_pipeline}
use Rattle.wf_display.proofs.PipelineNames.{Renamed}
use Rattle.wf_display.proofs.commits.commit_pipelines.Given as goal

-- what was passed is committed where it is taken, and the rest is not yet; the store counts the names of all
abbrev pub invariant-loop-place : goal.invariant-loop-place
invariant-loop-place l = record {
  pipelines :
      l.pipelines ≡ each_from (λ n x. if takes_pipeline l.extent n x then committed_pipeline l.sources x else x) 1
      (take l.place l.initial.pipelines) ++ drop l.place l.initial.pipelines;
  renamed : Renamed l.place l.initial.pipelines l.pipelines l.initial.store l.store;
}
