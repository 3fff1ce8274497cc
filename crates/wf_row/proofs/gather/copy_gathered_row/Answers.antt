use Rattle.std.proofs.Common.{◌≡◌, ℕ, ◌+◌, ◌*◌, ◌<◌, ◌++◌, List, length, arith, sym, ap, ◌∙◌}
use Rattle.std.proofs.lemmas.List.{append-nil, drop_all, take_all}
use Rattle.std.proofs.lemmas.Simd.{Each1-from_get_or}
use Rattle.wf_row.specs.declared.AlphaMode.TheVariants.{Opaque}
use Rattle.wf_row.specs.Bytes.{premultiplied_bytes}
use Rattle.wf_row.specs.Gather.{gathered_row}
use Rattle.wf_row.proofs.Rows.{written}
use Rattle.wf_row.proofs.Copies.{copied, copied-Pixelwise, lanes_written, over_opaque}
use Rattle.wf_row.proofs.Gathers.{each_gathered, gathered_at, gathered_count}
use Rattle.wf_row.proofs.gather.copy_gathered_row.Goals as goal

pub loop-i-preserved : goal.loop-i-preserved
loop-i-preserved c =
    let src : List ℕ = c.args.src.now in
    let columns : List ℕ = c.args.columns.now in
    let i : ℕ = c.loop-i.i in
    let count = gathered_count src columns (λ k less. c.requires.within k 0 less) in
    lanes_written copied copied-Pixelwise i 1 (4 * i) 4 (4 * (i + 1)) (gathered_row src columns) c.args.row.now c.loop-i.row
    c.opaque_pixel.result
    (omega arith) (omega arith) (omega arith) (omega (arith, count)) (c.requires.row ∙ sym count) (omega (arith, count))
    c.loop-i.invariant
    (c.opaque_pixel.ensures ∙ ap (premultiplied_bytes Opaque) (c.load_pixel-pixel.ensures.value
    ∙ sym (gathered_at src i columns (λ k less. c.requires.within k 0 less) (omega arith))))

pub returns : goal.returns
returns c =
    let src : List ℕ = c.args.src.now in
    let columns : List ℕ = c.args.columns.now in
    let old : List ℕ = c.args.row.now in
    let to : List ℕ = gathered_row src columns in
    let count : length to ≡ 4 * length columns = gathered_count src columns (λ k less. c.requires.within k 0 less) in
    let all : 4 * c.loop-i.i ≡ length to = omega (arith, count) in
    c.loop-i.invariant
    ∙ ap (λ (n : ℕ). written copied n to old) all
    ∙ (λ i. premultiplied_bytes Opaque (take_all (length to) to (omega arith) i) ++ drop_all (length to) old (omega (arith, count)) i)
    ∙ append-nil (premultiplied_bytes Opaque to)
    ∙ over_opaque (length columns) to old count (c.requires.row)
    (each_gathered src (λ x. x < 256) columns (Each1-from_get_or (λ x. x < 256) src 0 (λ i _. (c.type_inv.src i).fits)))
