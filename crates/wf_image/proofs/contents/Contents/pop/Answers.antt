use Rattle.std.proofs.Common.{sym, ap, ◌∙◌}
use Rattle.wf_image.specs.Contents.{somes}
use Rattle.wf_image.proofs.Apart.{places_without}
use Rattle.wf_image.proofs.Places.{somes_out}
use Rattle.wf_image.proofs.contents.Contents.pop.Goals as goal

pub returns-clause-last : goal.returns-clause-last
returns-clause-last c = sym c.self.view_is ∙ ap (λ l. somes l) c.in_ok-pop.ensures.items
    ∙ somes_out c.pop.new.self.items c.in_ok-pop.field-0

pub invariant_of-self-2 : goal.invariant_of-self-2
invariant_of-self-2 c =
    places_without c.self.inside.pairs.items c.pop.new.self.items c.in_ok-pop.field-0 c.self.invariant c.in_ok-pop.ensures.items
