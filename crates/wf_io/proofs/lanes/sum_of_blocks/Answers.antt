use Rattle.std.proofs.Common.{◌+◌, ◌*◌, sum, arith}
use Rattle.wf_io.proofs.Sums.{one_more_block}
use Rattle.wf_io.proofs.lanes.sum_of_blocks.Goals as goal

pub loop-block-preserved : goal.loop-block-preserved
loop-block-preserved c =
    let block = c.loop-block.block in
    record {
      count = c.added-lanes.ensures.count;
      sum = one_more_block (32 * block) (32 * (block + 1)) (sum c.loop-block.lanes) (sum c.fours.result) (sum c.added-lanes.result)
          c.args.bytes.now (omega arith) c.loop-block.invariant.sum c.fours.ensures.sum c.added-lanes.ensures.sum;
    }
