use Rattle.std.proofs.Common.{◌≡◌, drop}
use Rattle.wf_model.specs.DisplaySides.{source_at}
use Rattle.wf_display.proofs.finding.source_at.Given as goal

-- what was passed is not the source
abbrev pub invariant-loop-source : goal.invariant-loop-source
invariant-loop-source l = source_at l.handle l.sources ≡ source_at l.handle (drop l.source-index l.sources)
