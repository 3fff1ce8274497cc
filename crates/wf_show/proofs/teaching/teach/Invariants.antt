use Rattle.std.proofs.Common.{◌≡◌}
use Rattle.wf_show.specs.Players.{AreTold}
use Rattle.wf_show.proofs.teaching.teach.Given as goal

abbrev pub invariant-loop-i : goal.invariant-loop-i
invariant-loop-i l = (l.clock ≡ l.initial.clock) × AreTold l.initial.clock l.initial.others l.others l.i
