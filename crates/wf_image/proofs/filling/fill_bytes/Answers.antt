use Rattle.std.proofs.Common.{◌∙◌}
use Rattle.wf_image.proofs.Fills.{filled_masks, filled_pixels}
use Rattle.wf_image.proofs.filling.fill_bytes.Goals as goal

pub returns-in-A8 : goal.returns-in-A8
returns-in-A8 c =
    c.fill.ensures.after (λ y h. h) ∙ filled_masks c.args.size c.args.format c.args.bytes.now c.args.color c.in-A8.is c.requires.count

pub returns-in_default : goal.returns-in_default
returns-in_default c =
    c.fill_pixels.ensures ∙ filled_pixels c.args.size c.args.format c.args.bytes.now c.args.color c.in_default.not-A8 c.requires.count
