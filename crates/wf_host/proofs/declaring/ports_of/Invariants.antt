use Rattle.std.proofs.Common.{◌≡◌, true, length}
use Rattle.std.specs.List.{list_all}
use Rattle.wf_calls.specs.PortRules.{may_have}
use Rattle.wf_host.specs.PortsOf.{ports_to}
use Rattle.wf_host.proofs.declaring.ports_of.Given as goal

abbrev pub invariant-loop-port : goal.invariant-loop-port
invariant-loop-port l = (l.ports.items ≡ ports_to l.port l.modes) × (length l.ports.items ≡ l.port)
    × (list_all may_have l.ports.items ≡ true)
