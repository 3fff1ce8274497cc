use Rattle.std.proofs.Common.{◌+◌, ◌∙◌}
use Rattle.wf_kernel.specs.Placed.{mask_value}
use Rattle.wf_kernel.proofs.Blended.{masked_laid}
use Rattle.wf_kernel.proofs.laying.lay_turned.Goals as goal

pub returns : goal.returns
returns c =
    let s = c.args.stretch in
    c.blend_masked_row.ensures
    ∙ masked_laid c.args.mode c.args.fade s.len (λ i. mask_value c.args.layer.now c.args.mask.now (s.across + i) s.down) c.args.line.now
    c.args.part.now c.fill_values.new.values
    c.requires.line c.requires.count c.fill_values.ensures.len c.fill_values.ensures.value
