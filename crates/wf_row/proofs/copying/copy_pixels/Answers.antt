use Rattle.std.proofs.Common.{◌≡◌, ℕ, ◌+◌, ◌*◌, ◌/◌, ◌-◌, List, length, take, drop, arith, ◌∙◌, sym, ap}
use Rattle.wf_row.specs.declared.AlphaMode.TheVariants.{Opaque}
use Rattle.wf_row.specs.Bytes.{premultiplied_bytes}
use Rattle.wf_row.proofs.Rows.{written, rest_written}
use Rattle.wf_row.proofs.Copies.{copied, copied-Pixelwise, copied_over, lanes_written}
use Rattle.wf_row.proofs.copying.copy_pixels.Goals as goal

pub loop-block-preserved : goal.loop-block-preserved
loop-block-preserved c =
    lanes_written copied copied-Pixelwise (4 * c.loop-block.block) 4 (16 * c.loop-block.block) 16 (16 * (c.loop-block.block + 1))
    c.args.src.now c.args.row.now c.loop-block.row c.opaque_lanes.result
    (omega arith) (omega arith) (omega arith) (omega arith) c.requires.same (omega arith) c.loop-block.invariant (c.opaque_lanes.ensures
    ∙ ap (premultiplied_bytes Opaque) c.load_four.ensures.value)

pub returns : goal.returns
returns c =
    let src : List ℕ = c.args.src.now in
    let at : ℕ = 16 * (length src / 16) in
    let same : length src ≡ length c.loop-block.row = sym c.requires.same ∙ sym c.loop-block.auto.row in
    let all : c.loop-block.block ≡ length src / 16 = omega arith in
    rest_written copied copied-Pixelwise (4 * (length src / 16)) at (length c.loop-block.row - at) src c.args.row.now c.loop-block.row
    c.copy_rest.new.row
    (omega arith) (omega arith) c.requires.same (c.loop-block.invariant ∙ ap (λ (j : ℕ). written copied (16 * j) src c.args.row.now) all)
    (c.copy_rest.ensures ∙ ap (λ (j : ℕ). premultiplied_bytes Opaque (take (j - at) (drop at src))) same)
    ∙ copied_over (length src / 4) src c.args.row.now (omega arith) (omega arith) c.type_inv.src
