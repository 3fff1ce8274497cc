use Rattle.std.proofs.Common.{ap, ◌∙◌}
use Rattle.wf_row.specs.Bytes.{joined, faded_bytes}
use Rattle.wf_row.proofs.Blocks.{faded_joined}
use Rattle.wf_row.proofs.block.Block.faded.Goals as goal

pub returns : goal.returns
returns c = (λ i. joined (c.mul_lanes.ensures.value i) (c.mul_lanes-2.ensures.value i))
    ∙ faded_joined 16 c.args.k c.self.inside.low c.self.inside.high c.self.invariant.low_bytes.count c.self.invariant.high_bytes.count
    ∙ ap (faded_bytes c.args.k) c.self.view_is
