use Rattle.std.proofs.Common.{ap, ◌∙◌}
use Rattle.std.specs.Simd.Lanes.{zip2}
use Rattle.wf_pixel.specs.Arithmetic.{mul}
use Rattle.wf_row.specs.Bytes.{joined, masked_bytes}
use Rattle.wf_row.proofs.Blocks.{masked_joined}
use Rattle.wf_row.proofs.block.Block.masked.Goals as goal

pub returns : goal.returns
returns c =
    (λ i. joined (c.mul_lanes.ensures.value i) (c.mul_lanes-2.ensures.value i))
    ∙ (λ i. joined (zip2 mul c.self.inside.low (c.twice_lanes-k.ensures.value i))
    (zip2 mul c.self.inside.high (c.twice_lanes-k.ensures.value i)))
    ∙ masked_joined 8 c.args.mask c.self.inside.low c.self.inside.high c.requires.count c.self.invariant.low_bytes.count
    c.self.invariant.high_bytes.count
    ∙ ap (masked_bytes c.args.mask) c.self.view_is
