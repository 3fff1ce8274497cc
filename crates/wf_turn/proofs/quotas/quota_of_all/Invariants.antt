use Rattle.wf_turn.proofs.Common.{◌≡◌, ◌*◌, ◌≤◌, take, sum_by, line_quota}
use Rattle.wf_turn.proofs.quotas.quota_of_all.Given as goal

-- the sum of the lines so far
abbrev pub invariant-loop-line : goal.invariant-loop-line
invariant-loop-line l = record {
  sum : l.sum ≡ sum_by (λ m. line_quota m.verb) (take l.line-index l.lines);
  most : l.sum ≤ 40 * l.line-index;
}
