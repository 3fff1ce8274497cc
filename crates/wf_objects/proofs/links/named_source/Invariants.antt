use Rattle.std.proofs.Common.{◌≡◌, drop}
use Rattle.wf_objects.specs.Sights.{named_source}
use Rattle.wf_objects.proofs.links.named_source.Given as goal

-- it is none of those that were passed
abbrev pub invariant-loop-source : goal.invariant-loop-source
invariant-loop-source l = named_source l.device l.number l.sources l.contexts
    ≡ named_source l.device l.number (drop l.source-index l.sources) l.contexts
