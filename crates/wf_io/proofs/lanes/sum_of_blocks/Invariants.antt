use Rattle.std.proofs.Common.{◌≡◌, ◌*◌, ◌%◌, ◌^◌, length, sum, take}
use Rattle.wf_io.proofs.lanes.sum_of_blocks.Given as goal

-- the lanes have the bytes of the blocks so far
abbrev pub invariant-loop-block : goal.invariant-loop-block
invariant-loop-block l = record {
  count : length l.lanes ≡ 8;
  sum : sum l.lanes % 2 ^ 32 ≡ sum (take (32 * l.block) l.bytes) % 2 ^ 32;
}
