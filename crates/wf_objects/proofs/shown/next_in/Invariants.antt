use Rattle.std.proofs.Common.{◌≡◌, drop}
use Rattle.wf_model.specs.Frames.{next_context}
use Rattle.wf_objects.proofs.shown.next_in.Given as goal

-- it is none of those that were passed
abbrev pub invariant-loop-context : goal.invariant-loop-context
invariant-loop-context l = next_context l.after l.contexts ≡ next_context l.after (drop l.context-index l.contexts)
