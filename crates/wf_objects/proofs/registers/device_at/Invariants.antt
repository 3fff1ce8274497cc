use Rattle.std.proofs.Common.{◌≡◌, drop}
use Rattle.wf_words.specs.Keyed.{at_key}
use Rattle.wf_objects.proofs.registers.device_at.Given as goal

-- what was passed is not the device
abbrev pub invariant-loop-device : goal.invariant-loop-device
invariant-loop-device l = at_key (λ x. x.handle) l.handle l.devices ≡ at_key (λ x. x.handle) l.handle (drop l.device-index l.devices)
