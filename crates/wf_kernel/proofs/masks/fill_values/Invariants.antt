use Rattle.std.proofs.Common.{◌≡◌, ℕ, ◌+◌, ◌<◌}
use Rattle.std.specs.Prelude.{slice_index}
use Rattle.wf_kernel.specs.Placed.{mask_value}
use Rattle.wf_kernel.proofs.masks.fill_values.Given as goal

-- the values so far are written
abbrev pub invariant-loop-i : goal.invariant-loop-i
invariant-loop-i l = (k : ℕ) → k < l.i → slice_index l.values k ≡ mask_value l.layer l.mask (l.stretch.across + k) l.stretch.down
