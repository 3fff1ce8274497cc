use Rattle.std.proofs.Common.{ℕ, List, length, take, drop, replicate, refl, ◌∙◌, ap}
use Rattle.wf_row.specs.Bytes.{blended_masked}
use Rattle.wf_row.proofs.Masks.{rest_masked, blended_masked-Maskwise}
use Rattle.wf_row.proofs.masking.mask_rest.Goals as goal

pub returns : goal.returns
returns c =
    let mask : List ℕ = c.args.mask.now in
    let src : List ℕ = c.args.src.now in
    let row : List ℕ = c.args.row.now in
    let zeros : List ℕ = replicate 32 0 in
    let f : List ℕ → List ℕ → List ℕ → List ℕ = blended_masked c.args.mode c.args.fade in
    c.copy_from_slice.ensures.after
    ∙ ap (take (length src)) (c.mask_block-both.ensures
    ∙ (λ i. f (c.padded_mask.ensures.value i) (c.padded.ensures.value i) (c.padded-2.ensures.value i)))
    ∙ rest_masked f (blended_masked-Maskwise c.args.mode c.args.fade) (length mask) (length src) mask src row
    (drop (length mask) (replicate 8 0)) (drop (length src) zeros) (drop (length row) zeros) c.requires.src refl refl c.requires.same
