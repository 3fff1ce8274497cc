use Rattle.std.proofs.Common.{ℕ, ◌∙◌}
use Rattle.wf_kernel.specs.Bound.{no_bound}
use Rattle.wf_kernel.proofs.Stacks.{laid_first}
use Rattle.wf_kernel.proofs.Cuts.{base_low, base_covers}
use Rattle.wf_kernel.proofs.painting.begin_strip.Goals as goal

pub returns-in-Some-clause-colours : goal.returns-in-Some-clause-colours
returns-in-Some-clause-colours c =
    let layers = c.args.layers.now in
    let s = c.args.strip in
    let w : ℕ = c.args.width in
    let y : ℕ = c.args.y in
    let base = c.in-Some.base in
    c.lay_row.ensures.row
    ∙ laid_first s.first s.width layers base no_bound c.args.background y c.args.row.now
    (base_low layers w base s c.requires.strip c.in-Some.is)
    (base_covers layers w base y s c.requires.strip c.in-Some.is c.requires.from c.requires.bottom)
