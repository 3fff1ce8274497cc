use Rattle.std.proofs.Common.{ℕ, ◌/◌, List, length, take, drop, replicate, arith, refl, ◌∙◌, ap}
use Rattle.wf_row.specs.Bytes.{blended}
use Rattle.wf_row.proofs.Rows.{rest_blended, blended-Pixelwise}
use Rattle.wf_row.proofs.blending.blend_rest.Goals as goal

pub returns : goal.returns
returns c =
    let src : List ℕ = c.args.src.now in
    let row : List ℕ = c.args.row.now in
    let zeros : List ℕ = replicate 32 0 in
    let f : List ℕ → List ℕ → List ℕ = blended c.args.mode c.args.fade in
    c.copy_from_slice.ensures.after
    ∙ ap (take (length src)) (c.blend_block.ensures ∙ (λ i. f (c.padded.ensures.value i) (c.padded-2.ensures.value i)))
    ∙ rest_blended f (blended-Pixelwise c.args.mode c.args.fade) (length src / 4) (length src) src row (drop (length src) zeros)
    (drop (length row) zeros) (omega arith) refl c.requires.same
