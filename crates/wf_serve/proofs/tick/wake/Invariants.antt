use Rattle.std.proofs.Common.{◌≡◌, ◌+◌, ◌*◌, ◌≤◌, ◌++◌, length}
use Rattle.wf_serve.specs.Ticks.{waiters}
use Rattle.wf_serve.proofs.tick.wake.Given as goal

-- the clients so far are answered
abbrev pub invariant-loop-n : goal.invariant-loop-n
invariant-loop-n l = record {
  answers : l.answers ≡ l.initial.answers ++ waiters l.n l.waiting l.tick;
  few : length l.answers ≤ 11 + 11 * l.n;
}
