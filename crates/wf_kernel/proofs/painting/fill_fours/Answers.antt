use Rattle.std.proofs.Common.{◌≡◌, ℕ, ◌+◌, ◌*◌, ◌++◌, List, length, arith, refl, sym, ap, ◌∙◌, drop}
use Rattle.std.specs.Prelude.{flat_map}
use Rattle.std.specs.List.{range_with_len}
use Rattle.wf_pixel.specs.declared.Format.TheVariants.{Rgba8Pre}
use Rattle.wf_image.specs.Bitmap.{stored}
use Rattle.wf_kernel.proofs.Pieces.{length-pieces, step}
use Rattle.wf_kernel.proofs.Pixels.{pieces_split}
use Rattle.wf_kernel.proofs.painting.fill_fours.Goals as goal

pub loop-i-preserved : goal.loop-i-preserved
loop-i-preserved c =
    let cell : ℕ → List ℕ = λ _. stored Rgba8Pre c.args.color in
    let i : ℕ = c.loop-i.i in
    let done : List ℕ = flat_map cell (range_with_len 0 (4 * i)) in
    let next : 16 * i + 16 ≡ 16 * (i + 1) = omega arith in
    let more : 4 * i + 4 ≡ 4 * (i + 1) = omega arith in
    let len : length done ≡ 16 * i = omega (arith, length-pieces cell 4 0 (4 * i) (λ x. refl)) in
    step done _ c.loop-i.row c.put_four.new.row c.args.row.now (16 * i) 16 (16 * i + 16) len refl c.loop-i.invariant c.put_four.ensures
    ∙ ap (λ (bytes : List ℕ). bytes ++ drop (16 * i + 16) c.args.row.now) (sym (pieces_split cell 0 (4 * i) 4))
    ∙ (λ j. flat_map cell (range_with_len 0 (more j)) ++ drop (next j) c.args.row.now)
