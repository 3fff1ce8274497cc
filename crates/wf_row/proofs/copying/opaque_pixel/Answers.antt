use Rattle.wf_row.proofs.Copies.{opaque_are}
use Rattle.wf_row.proofs.copying.opaque_pixel.Goals as goal

pub returns : goal.returns
returns c = opaque_are 1 c.args.x c.requires.count c.requires.below
