use Rattle.wf_turn.proofs.Common.{◌≡◌, ◌*◌, ◌≤◌, take, sum_by, quota_of}
use Rattle.wf_turn.proofs.quotas.quota_in.Given as goal

-- the sum of the lines so far
abbrev pub invariant-loop-line : goal.invariant-loop-line
invariant-loop-line l = record {
  sum : l.sum ≡ sum_by (quota_of l.client) (take l.line-index l.lines);
  most : l.sum ≤ 40 * l.line-index;
}
