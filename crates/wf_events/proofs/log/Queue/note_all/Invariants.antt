use Rattle.std.proofs.Common.{◌≤◌, ◌+◌, map, take}
use Rattle.wf_events.specs.Queue.{AreTold}
use Rattle.wf_events.proofs.log.Queue.note_all.Given as goal

abbrev pub invariant-loop-happening : goal.invariant-loop-happening
invariant-loop-happening l = record {
  told : AreTold l.initial.self l.self (map (λ e. (l.place, e)) (take l.happening-index l.happenings));
  most : l.self.lost ≤ l.initial.self.lost + l.happening-index;
}
