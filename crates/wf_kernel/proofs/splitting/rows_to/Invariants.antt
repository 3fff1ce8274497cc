use Rattle.std.proofs.Common.{◌-◌, ◌<◌, ◌≤◌}
use Rattle.wf_kernel.proofs.splitting.rows_to.Given as goal

abbrev pub invariant-loop-low : goal.invariant-loop-low
invariant-loop-low l = record {
  some : 1 ≤ l.low;
  order : l.low ≤ l.high;
  rest : l.high < l.band.rows;
}

abbrev pub decreases-loop-low : goal.decreases-loop-low
decreases-loop-low l = l.high - l.low
