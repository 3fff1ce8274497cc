use Rattle.std.proofs.Common.{◌≡◌, ◌∙◌, ◌+◌, ◌∷◌, List, Option, Some, drop, refl, sym, ap, arith}
use Rattle.std.proofs.Math.Facts.{to_z-of_z}
use Rattle.std.proofs.lemmas.List.{at_drop_more}
use Rattle.wf_model.specs.Objects.{Source}
use Rattle.wf_objects.specs.Sights.{named_source}
use Rattle.wf_objects.proofs.links.named_source.Goals as goal

pub returns-then-is_named-clause-found : goal.returns-then-is_named-clause-found
returns-then-is_named-clause-found c =
    let x = c.source-item.result in
    let xs = c.args.sources.now in
    let i = c.loop-source.source-index in
    let found : List Source → Option Source = λ ss. named_source c.args.device c.args.number ss c.args.contexts.now in
    let number = to_z-of_z c.ranges.number in
    let named = rw number at c.is_named.ensures.named in
    let so_far = rw number at c.loop-source.invariant in
    let here : found (x ∷ drop (i + 1) xs) ≡ Some x = rw (sym named ∙ c.if-is_named.true) refl in
    sym (so_far ∙ at_drop_more found xs i x (omega (arith, c.loop-source-test.true))
    ∙ ap (λ y. found (y ∷ drop (i + 1) xs)) (sym c.source-item.is) ∙ here)
