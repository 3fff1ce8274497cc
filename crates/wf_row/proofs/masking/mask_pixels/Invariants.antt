use Rattle.std.proofs.Common.{◌≡◌, ◌*◌}
use Rattle.wf_row.specs.Bytes.{blended_masked}
use Rattle.wf_row.proofs.Masks.{written}
use Rattle.wf_row.proofs.masking.mask_pixels.Given as goal

-- the blocks so far are blended, and the others are as they were
abbrev pub invariant-loop-block : goal.invariant-loop-block
invariant-loop-block l = l.row ≡ written (blended_masked l.mode l.fade) (8 * l.block) l.mask l.src l.fn.row
