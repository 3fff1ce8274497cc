use Rattle.std.proofs.Common.{◌≡◌, ℕ, List, true, sym, ap, ◌∙◌, ◌==◌}
use Rattle.std.specs.List.{list_any}
use Rattle.wf_image.specs.Listed.{of_listed}
use Rattle.wf_damage.specs.Areas.{same_content}
use Rattle.wf_damage.proofs.comparing.is_same.Goals as goal

pub returns-then-contains-clause-same : goal.returns-then-contains-clause-same
returns-then-contains-clause-same c =
    sym (of_listed (λ (stream : ℕ). same_content c.args.before.now c.args.now.now stream ≡ true) c.args.compared.now.same.items
    c.args.stream
    c.requires.compared.same
    (ap (λ (l : List ℕ). list_any (λ y. y == c.args.stream) l) (sym c.as_slice.ensures.value) ∙ sym c.contains.ensures.value
    ∙ c.if-contains.true))
