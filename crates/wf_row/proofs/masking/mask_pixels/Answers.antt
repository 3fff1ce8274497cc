use Rattle.std.proofs.Common.{◌≡◌, ℕ, ◌+◌, ◌*◌, ◌/◌, ◌-◌, List, length, take, drop, arith, ◌∙◌, sym, ap}
use Rattle.wf_row.specs.Bytes.{blended_masked}
use Rattle.wf_row.proofs.Masks.{written, chunk_written, rest_written, blended_masked-Maskwise}
use Rattle.wf_row.proofs.masking.mask_pixels.Goals as goal

pub loop-block-preserved : goal.loop-block-preserved
loop-block-preserved c =
    let f : List ℕ → List ℕ → List ℕ → List ℕ = blended_masked c.args.mode c.args.fade in
    chunk_written f (blended_masked-Maskwise c.args.mode c.args.fade) (8 * c.loop-block.block) (32 * c.loop-block.block)
    (8 * (c.loop-block.block + 1))
    c.args.mask.now c.args.src.now c.args.row.now c.loop-block.row c.mask_block-both.result (omega arith) (omega arith) (omega arith)
    c.requires.src c.requires.same (omega arith) c.loop-block.invariant
    (c.mask_block-both.ensures ∙ (λ i. f (c.load_mask.ensures.value i) (c.load.ensures.value i) (c.load-in-loop-block.ensures.value i)))

pub returns : goal.returns
returns c =
    let src : List ℕ = c.args.src.now in
    let mask : List ℕ = c.args.mask.now in
    let f : List ℕ → List ℕ → List ℕ → List ℕ = blended_masked c.args.mode c.args.fade in
    let at : ℕ = 32 * (length mask / 8) in
    let same : length src ≡ length c.loop-block.row = sym c.requires.same ∙ sym c.loop-block.auto.row in
    let all : c.loop-block.block ≡ length mask / 8 = omega arith in
    rest_written f (blended_masked-Maskwise c.args.mode c.args.fade) (8 * (length mask / 8)) (length mask - 8 * (length mask / 8)) at
    (length c.loop-block.row - at) mask src c.args.row.now c.loop-block.row c.mask_rest.new.row
    (omega arith) (omega arith) (omega arith) c.requires.src c.requires.same (c.loop-block.invariant
    ∙ ap (λ (j : ℕ). written f (8 * j) mask src c.args.row.now) all)
    (c.mask_rest.ensures
    ∙ ap (λ (j : ℕ). f (take (length mask - 8 * (length mask / 8)) (drop (8 * (length mask / 8)) mask)) (take (j - at) (drop at src))
    (take (length c.loop-block.row - at) (drop at c.loop-block.row))) same)
