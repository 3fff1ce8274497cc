use Rattle.std.proofs.Common.{◌≡◌, ◌++◌, drop, map, take}
use Rattle.wf_model.specs.Display.{begun_pipeline}
use Rattle.wf_display.proofs.PipelineNames.{Renamed}
use Rattle.wf_display.proofs.scenes.begin_pipelines.Given as goal

-- what was passed is as at the frame, and the rest is not yet; the store counts the names of all
abbrev pub invariant-loop-place : goal.invariant-loop-place
invariant-loop-place l = record {
  pipelines : l.pipelines ≡ map (begun_pipeline l.number) (take l.place l.initial.pipelines) ++ drop l.place l.initial.pipelines;
  renamed : Renamed l.place l.initial.pipelines l.pipelines l.initial.store l.store;
}
