use Rattle.std.proofs.Common.{◌≡◌, ℕ, ◌+◌, ◌*◌, ◌++◌, List, length, arith, ◌∙◌, ap}
use Rattle.std.proofs.lemmas.List.{take_all, drop_all, append-nil}
use Rattle.wf_row.specs.declared.AlphaMode.TheVariants.{Opaque}
use Rattle.wf_row.specs.Bytes.{premultiplied_bytes}
use Rattle.wf_row.proofs.Rows.{written}
use Rattle.wf_row.proofs.Copies.{copied, copied-Pixelwise, lanes_written}
use Rattle.wf_row.proofs.copying.copy_rest.Goals as goal

pub loop-i-preserved : goal.loop-i-preserved
loop-i-preserved c =
    lanes_written copied copied-Pixelwise c.loop-i.i 1 (4 * c.loop-i.i) 4 (4 * (c.loop-i.i + 1)) c.args.src.now c.args.row.now c.loop-i.row
    c.opaque_pixel.result
    (omega arith) (omega arith) (omega arith) (omega arith) c.requires.same (omega arith) c.loop-i.invariant (c.opaque_pixel.ensures
    ∙ ap (premultiplied_bytes Opaque) c.load_pixel.ensures.value)

pub returns : goal.returns
returns c =
    let src : List ℕ = c.args.src.now in
    let old : List ℕ = c.args.row.now in
    let all : 4 * c.loop-i.i ≡ length src = omega arith in
    c.loop-i.invariant
    ∙ ap (λ (n : ℕ). written copied n src old) all
    ∙ (λ i. premultiplied_bytes Opaque (take_all (length src) src (omega arith) i) ++ drop_all (length src) old (omega arith) i)
    ∙ append-nil (premultiplied_bytes Opaque src)
