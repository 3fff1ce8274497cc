use Rattle.std.proofs.Common.{◌*◌, ◌+◌, refl}
use Rattle.std.specs.Prelude.{◌∷◌, []}
use Rattle.wf_image.proofs.Fills.{put_is}
use Rattle.wf_image.proofs.filling.put_four.Goals as goal

pub returns : goal.returns
returns c =
    let color = c.args.color in
    put_is (4 * c.args.x) c.args.row.now (color.r ∷ color.g ∷ color.b ∷ color.a ∷ []) (4 * c.args.x + 4) refl c.requires
