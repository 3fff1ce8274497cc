use Rattle.std.proofs.Common.{sym, ◌∙◌}
use Rattle.std.specs.Simd.Lanes.{zip2}
use Rattle.wf_pixel.specs.Arithmetic.{mul}
use Rattle.wf_row.specs.Bytes.{joined, premultiplied_bytes}
use Rattle.wf_row.proofs.Blocks.{straight_joined, solid_joined}
use Rattle.wf_row.proofs.block.Block.premultiplied.Goals as goal

pub returns-in-Straight : goal.returns-in-Straight
returns-in-Straight c =
    (λ i. joined (c.mul_lanes.ensures.value i) (c.mul_lanes-in-Straight.ensures.value i))
    ∙ (λ i. joined (zip2 mul c.self.inside.low (c.second_lanes-alpha.ensures.value i))
    (zip2 mul (c.solid_lanes.ensures.value i) (c.second_lanes-alpha.ensures.value i)))
    ∙ straight_joined 8 c.self.inside.low c.self.inside.high c.self.invariant.low_bytes.count c.self.invariant.high_bytes.count
    c.self.invariant.high_bytes.below
    ∙ (λ i. premultiplied_bytes (sym c.in-Straight.is i) (c.self.view_is i))

pub returns-in-Opaque : goal.returns-in-Opaque
returns-in-Opaque c =
    (λ i. joined c.self.inside.low (c.solid_lanes-in-Opaque.ensures.value i))
    ∙ solid_joined 8 c.self.inside.low c.self.inside.high c.self.invariant.low_bytes.count c.self.invariant.high_bytes.count
    ∙ (λ i. premultiplied_bytes (sym c.in-Opaque.is i) (c.self.view_is i))
