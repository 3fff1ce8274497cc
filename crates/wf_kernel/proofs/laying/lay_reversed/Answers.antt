use Rattle.std.proofs.Common.{◌∙◌}
use Rattle.wf_row.specs.Gather.{reversed}
use Rattle.wf_kernel.proofs.Copied.{copied_laid}
use Rattle.wf_kernel.proofs.laying.lay_reversed.Goals as goal

pub returns : goal.returns
returns c =
    c.copy_reversed_row.ensures
    ∙ copied_laid c.args.layer.now c.args.image.now c.args.stretch (reversed c.backward_line.result.now) c.args.part.now c.requires.copied
    c.backward_line.ensures.value c.requires.count
