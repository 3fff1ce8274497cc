use Rattle.std.proofs.Common.{◌≡◌, ◌++◌, drop, take, None}
use Rattle.wf_words.specs.Keyed.{change}
use Rattle.wf_objects.proofs.registers.clear_in.Given as goal

-- what was passed is changed, and the rest is not
abbrev pub invariant-loop-place : goal.invariant-loop-place
invariant-loop-place l =
    l.devices ≡ change (λ x. x.handle) l.handle (λ x. record x { register = None }) (take l.place l.initial.devices)
    ++ drop l.place l.initial.devices
