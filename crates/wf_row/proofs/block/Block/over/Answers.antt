use Rattle.std.proofs.Common.{◌≡◌, ◌+◌, ◌-◌, map, min, sym, ap, ◌∙◌}
use Rattle.std.specs.Simd.Lanes.{zip2}
use Rattle.wf_pixel.specs.Arithmetic.{mul}
use Rattle.wf_row.specs.Bytes.{joined, seconds, over_bytes}
use Rattle.wf_row.proofs.Blocks.{over_joined}
use Rattle.wf_row.proofs.block.Block.over.Goals as goal

pub returns : goal.returns
returns c =
    let lack : c.lacking_lanes-lacking.result ≡ map (λ a. 255 - a) (seconds c.self.inside.high) =
    c.lacking_lanes-lacking.ensures.value ∙ ap (map (λ a. 255 - a)) c.second_lanes.ensures.value in
    c.sum_lanes.ensures.value
    ∙ (λ i. zip2 (λ a b. min 255 (a + b)) (c.bytes.ensures.value i) (c.joined_lanes-rest.ensures.value i))
    ∙ (λ i. zip2 (λ a b. min 255 (a + b)) (sym c.self.view_is i) (joined (c.mul_lanes.ensures.value i) (c.mul_lanes-2.ensures.value i)))
    ∙ (λ i. zip2 (λ a b. min 255 (a + b)) (joined c.self.inside.low c.self.inside.high)
    (joined (zip2 mul c.below.inside.low (lack i)) (zip2 mul c.below.inside.high (lack i))))
    ∙ over_joined 8 c.self.inside.low c.self.inside.high c.below.inside.low c.below.inside.high c.self.invariant.low_bytes.count
    c.self.invariant.high_bytes.count c.below.invariant.low_bytes.count c.below.invariant.high_bytes.count
    ∙ (λ i. over_bytes (c.self.view_is i) (c.below.view_is i))
