use Rattle.std.proofs.Common.{◌≡◌, drop}
use Rattle.wf_guard.specs.LiveStreams.{destroyed_by}
use Rattle.wf_serve.proofs.hearing.destroy.Given as goal

-- what is left destroys the rest
abbrev pub invariant-loop-one : goal.invariant-loop-one
invariant-loop-one l = destroyed_by l.client l.owned l.initial.machine ≡ destroyed_by l.client (drop l.one-index l.owned) l.machine
