use Rattle.std.proofs.Common.{◌≡◌, drop}
use Rattle.wf_objects.specs.Owners.{of_device}
use Rattle.wf_objects.proofs.shown.shown_in.Given as goal

-- it is none of those that were passed
abbrev pub invariant-loop-context : goal.invariant-loop-context
invariant-loop-context l = of_device l.device l.handle l.contexts ≡ of_device l.device l.handle (drop l.context-index l.contexts)
