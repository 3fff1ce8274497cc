use Rattle.std.proofs.Common.{◌≡◌, ℕ, ◌+◌, ◌*◌, ◌/◌, ◌-◌, List, length, take, drop, arith, ◌∙◌, sym, ap}
use Rattle.wf_row.specs.Bytes.{blended}
use Rattle.wf_row.proofs.Rows.{written, chunk_written, rest_written, blended-Pixelwise}
use Rattle.wf_row.proofs.blending.blend_pixels.Goals as goal

pub loop-block-preserved : goal.loop-block-preserved
loop-block-preserved c =
    let at : ℕ = 32 * c.loop-block.block in
    chunk_written (blended c.args.mode c.args.fade) (blended-Pixelwise c.args.mode c.args.fade) (8 * c.loop-block.block) at
    (32 * (c.loop-block.block + 1))
    c.args.src.now c.args.row.now c.loop-block.row c.blend_block-both.result (omega arith) (omega arith) (omega arith) c.requires.same
    (omega arith) c.loop-block.invariant
    (c.blend_block-both.ensures ∙ (λ i. blended c.args.mode c.args.fade (c.load.ensures.value i) (c.load-in-loop-block.ensures.value i)))

pub returns : goal.returns
returns c =
    let src : List ℕ = c.args.src.now in
    let f : List ℕ → List ℕ → List ℕ = blended c.args.mode c.args.fade in
    let at : ℕ = 32 * (length src / 32) in
    let same : length src ≡ length c.loop-block.row = sym c.requires.same ∙ sym c.loop-block.auto.row in
    let all : c.loop-block.block ≡ length src / 32 = omega arith in
    rest_written f (blended-Pixelwise c.args.mode c.args.fade) (8 * (length src / 32)) at (length c.loop-block.row - at) src c.args.row.now
    c.loop-block.row c.blend_rest.new.row
    (omega arith) (omega arith) c.requires.same (c.loop-block.invariant ∙ ap (λ (j : ℕ). written f (32 * j) src c.args.row.now) all)
    (c.blend_rest.ensures ∙ ap (λ (j : ℕ). f (take (j - at) (drop at src)) (take (length c.loop-block.row - at) (drop at c.loop-block.row)))
    same)
