use Rattle.std.proofs.Common.{sym, ap, length, ◌∙◌}
use Rattle.wf_image.proofs.Places.{length-somes}
use Rattle.wf_image.proofs.contents.Contents.len.Goals as goal

pub returns-clause-count : goal.returns-clause-count
returns-clause-count c = c.len.ensures.value ∙ sym (length-somes c.self.inside.pairs.items c.self.invariant.full)
    ∙ ap (λ l. length l) c.self.view_is
