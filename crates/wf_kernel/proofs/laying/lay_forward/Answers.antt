use Rattle.std.proofs.Common.{◌∙◌}
use Rattle.wf_kernel.proofs.Copied.{copied_laid}
use Rattle.wf_kernel.proofs.laying.lay_forward.Goals as goal

pub returns-then-is_copied : goal.returns-then-is_copied
returns-then-is_copied c =
    c.blend_row.ensures
    ∙ copied_laid c.args.layer.now c.args.image.now c.args.stretch c.args.line.now c.args.part.now (c.is_copied.ensures c.if-is_copied.true)
    c.requires.line c.requires.count
