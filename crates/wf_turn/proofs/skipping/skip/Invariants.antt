use Rattle.wf_turn.proofs.Common.{◌≡◌, ◌-◌, ◌≤◌, length, take, bound_names, lines_from, skipped}
use Rattle.wf_turn.proofs.skipping.skip.Given as goal

-- what was passed binds no name, and what is left comes to the same
abbrev pub invariant-loop-at : goal.invariant-loop-at
invariant-loop-at l = record {
  within : l.at ≤ length l.lines;
  later : l.initial.at ≤ l.at;
  same : skipped l.initial.canvas (lines_from l.client l.initial.at l.lines) ≡ skipped l.canvas (lines_from l.client l.at l.lines);
  names : bound_names l.client (take l.at l.lines) ≡ bound_names l.client (take l.initial.at l.lines);
}

abbrev pub decreases-loop-at : goal.decreases-loop-at
decreases-loop-at l = length l.lines - l.at
