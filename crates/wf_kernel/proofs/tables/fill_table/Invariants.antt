use Rattle.std.proofs.Common.{◌≡◌, ℕ, ◌+◌, ◌-◌, ◌<◌, ◌≤◌, length}
use Rattle.std.specs.Prelude.{slice_index}
use Rattle.wf_kernel.specs.Placed.{across}
use Rattle.wf_kernel.proofs.tables.fill_table.Given as goal
use Rattle.wf_pixel.specs.declared.TheConstants.{MOST_SIDE}

-- the columns so far are worked out
abbrev pub invariant-loop-x : goal.invariant-loop-x
invariant-loop-x l = record {
  long : length l.table ≡ MOST_SIDE;
  holds : (k : ℕ) → l.reach.start ≤ k → k < l.x → slice_index l.table k ≡ across l.turn l.layer (l.reach.skip + (k - l.reach.start));
}
