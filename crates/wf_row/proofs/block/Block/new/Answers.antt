use Rattle.std.proofs.Common.{◌∙◌}
use Rattle.wf_row.specs.Bytes.{joined}
use Rattle.wf_row.proofs.Blocks.{joined_halves}
use Rattle.wf_row.proofs.block.Block.new.Goals as goal

pub returns : goal.returns
returns c = (λ i. joined (c.low_lanes.ensures.value i) (c.high_lanes.ensures.value i)) ∙ joined_halves 16 c.args.bytes c.requires.count
