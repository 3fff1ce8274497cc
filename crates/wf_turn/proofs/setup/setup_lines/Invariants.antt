use Rattle.wf_turn.proofs.Common.{◌≡◌, ◌+◌, ◌-◌, ◌≤◌, length, drop, setup_lines}
use Rattle.wf_turn.proofs.setup.setup_lines.Given as goal

-- the lines so far are client 0's
abbrev pub invariant-loop-at : goal.invariant-loop-at
invariant-loop-at l = record {
  within : l.at ≤ length l.lines;
  so_far : setup_lines l.lines ≡ l.at + setup_lines (drop l.at l.lines);
}

abbrev pub decreases-loop-at : goal.decreases-loop-at
decreases-loop-at l = length l.lines - l.at
