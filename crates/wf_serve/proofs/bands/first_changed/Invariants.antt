use Rattle.std.proofs.Common.{◌≡◌, ◌-◌}
use Rattle.wf_serve.specs.Bands.{first_changed}
use Rattle.wf_serve.proofs.bands.first_changed.Given as goal

-- the rows so far are the same
abbrev pub invariant-loop-y : goal.invariant-loop-y
invariant-loop-y l = first_changed l.row l.count 0 l.last l.next ≡ first_changed l.row (l.count - l.y) l.y l.last l.next
