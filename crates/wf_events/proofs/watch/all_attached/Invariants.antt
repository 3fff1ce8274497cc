use Rattle.std.proofs.Common.{◌≡◌, map, take}
use Rattle.wf_events.proofs.watch.all_attached.Given as goal

abbrev pub invariant-loop-port : goal.invariant-loop-port
invariant-loop-port l = l.attached.items ≡ map (λ p. p.attached) (take l.port-index l.ports)
