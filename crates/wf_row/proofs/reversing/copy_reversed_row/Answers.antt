use Rattle.std.proofs.Common.{◌≡◌, ℕ, ◌+◌, ◌*◌, ◌-◌, ◌/◌, ◌<◌, List, ◌++◌, length, arith, sym, ap, ◌∙◌}
use Rattle.std.proofs.lemmas.List.{take_all, drop_all, append-nil}
use Rattle.std.proofs.lemmas.Simd.{Each1-from_get_or, length-chunk}
use Rattle.std.specs.Simd.Lanes.{chunk}
use Rattle.wf_row.specs.declared.AlphaMode.TheVariants.{Opaque}
use Rattle.wf_row.specs.Bytes.{premultiplied_bytes}
use Rattle.wf_row.specs.Gather.{reversed}
use Rattle.wf_row.proofs.Rows.{written}
use Rattle.wf_row.proofs.Copies.{copied, copied-Pixelwise, lanes_written, over_opaque}
use Rattle.wf_row.proofs.Reversals.{chunk_reversed, each_reversed, one_reversed, reversed_count}
use Rattle.wf_row.proofs.reversing.copy_reversed_row.Goals as goal

pub loop-block-preserved : goal.loop-block-preserved
loop-block-preserved c =
    let src : List ℕ = c.args.src.now in
    let n : ℕ = 16 * c.loop-block.block in
    let from : ℕ = length src - 16 - n in
    let count : length (reversed src) ≡ length src = reversed_count (length src / 4) src (omega arith) ∙ omega arith in
    lanes_written copied copied-Pixelwise (4 * c.loop-block.block) 4 n 16 (16 * (c.loop-block.block + 1))
    (reversed src) c.args.row.now c.loop-block.row c.opaque_lanes.result
    (omega arith) (omega arith) (omega arith) (omega (arith, count)) (c.requires.same ∙ sym count) (omega (arith, count))
    c.loop-block.invariant
    (c.opaque_lanes.ensures ∙ ap (premultiplied_bytes Opaque) (c.reverse_lanes-pixels.ensures.value
    ∙ ap reversed c.load_four.ensures.value
    ∙ sym (chunk_reversed (length src / 4) (4 * c.loop-block.block) 4 n 16 from src
    (omega arith) (omega arith) (omega arith) (omega arith))))

pub loop-i-preserved : goal.loop-i-preserved
loop-i-preserved c =
    let src : List ℕ = c.args.src.now in
    let n : ℕ = 4 * c.loop-i.i in
    let from : ℕ = length src - 4 - n in
    let count : length (reversed src) ≡ length src = reversed_count (length src / 4) src (omega arith) ∙ omega arith in
    let pixel : chunk from 4 src ≡ chunk n 4 (reversed src) =
    sym (one_reversed (chunk from 4 src) (length-chunk from 4 src (omega arith)))
    ∙ sym (chunk_reversed (length src / 4) c.loop-i.i 1 n 4 from src (omega arith) (omega arith) (omega arith) (omega arith)) in
    lanes_written copied copied-Pixelwise c.loop-i.i 1 n 4 (4 * (c.loop-i.i + 1))
    (reversed src) c.args.row.now c.loop-i.row c.opaque_pixel.result
    (omega arith) (omega arith) (omega arith) (omega (arith, count)) (c.requires.same ∙ sym count) (omega (arith, count))
    c.loop-i.invariant
    (c.opaque_pixel.ensures ∙ ap (premultiplied_bytes Opaque) (c.load_pixel-pixel.ensures.value ∙ pixel))

pub returns : goal.returns
returns c =
    let src : List ℕ = c.args.src.now in
    let old : List ℕ = c.args.row.now in
    let to : List ℕ = reversed src in
    let count : length to ≡ length src = reversed_count (length src / 4) src (omega arith) ∙ omega arith in
    let all : 4 * c.loop-i.i ≡ length to = omega (arith, count) in
    c.loop-i.invariant
    ∙ ap (λ (n : ℕ). written copied n to old) all
    ∙ (λ i. premultiplied_bytes Opaque (take_all (length to) to (omega arith) i) ++ drop_all (length to) old (omega (arith, count)) i)
    ∙ append-nil (premultiplied_bytes Opaque to)
    ∙ over_opaque (length src / 4) to old (omega (arith, count)) (omega (arith, count))
    (each_reversed (λ x. x < 256) src (Each1-from_get_or (λ x. x < 256) src 0 (λ i _. (c.type_inv.src i).fits)))
