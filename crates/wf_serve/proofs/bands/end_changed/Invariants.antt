use Rattle.std.proofs.Common.{◌≡◌, ◌-◌}
use Rattle.wf_serve.specs.Bands.{end_changed}
use Rattle.wf_serve.proofs.bands.end_changed.Given as goal

-- the rows so far, from the bottom, are the same
abbrev pub invariant-loop-n : goal.invariant-loop-n
invariant-loop-n l = end_changed l.row l.count l.last l.next ≡ end_changed l.row (l.count - l.n) l.last l.next
