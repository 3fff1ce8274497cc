use Rattle.std.proofs.Common.{ℕ, ◌+◌, ◌*◌, List, arith, refl}
use Rattle.wf_pixel.specs.declared.Format.TheVariants.{Rgba8Pre}
use Rattle.wf_image.specs.Bitmap.{stored}
use Rattle.wf_kernel.proofs.Pieces.{written_more}
use Rattle.wf_kernel.proofs.painting.fill.Goals as goal

pub loop-x-preserved : goal.loop-x-preserved
loop-x-preserved c =
    let cell : ℕ → List ℕ = λ _. stored Rgba8Pre c.args.color in
    let at : ℕ = 4 * c.loop-x.x in
    written_more cell 4 c.loop-x.x c.loop-x.row c.put_pixel.new.row c.args.row.now at (at + 4) (4 * (c.loop-x.x + 1)) (λ x. refl) refl refl
    (omega arith) c.loop-x.invariant c.put_pixel.ensures
