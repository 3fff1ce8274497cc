use Rattle.std.proofs.Common.{◌≡◌, ◌≤◌, ◌+◌, ◌++◌, length}
use Rattle.wf_events.specs.Watching.{attached_at, between_from}
use Rattle.wf_events.proofs.Pairs.{found_from}
use Rattle.wf_events.proofs.watch.add_attached.Given as goal

-- what was found so far, and what is found from here on, is what is found of all
abbrev pub invariant-loop-place : goal.invariant-loop-place
invariant-loop-place l = record {
  same : l.found.items ++ found_from attached_at l.place l.before l.after
      ≡ l.initial.found.items ++ between_from attached_at 1 l.before l.after;
  few : length l.found.items ≤ 8 + l.place;
}
