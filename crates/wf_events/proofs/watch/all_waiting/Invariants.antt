use Rattle.std.proofs.Common.{◌≡◌, map, take}
use Rattle.wf_events.specs.Watching.{waiting_at}
use Rattle.wf_events.proofs.watch.all_waiting.Given as goal

abbrev pub invariant-loop-pipeline : goal.invariant-loop-pipeline
invariant-loop-pipeline l = l.waiting.items ≡ map waiting_at (take l.pipeline-index l.pipelines)
