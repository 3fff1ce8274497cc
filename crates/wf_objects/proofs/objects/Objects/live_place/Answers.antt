use Rattle.std.proofs.Common.{◌≡◌, ◌∙◌, ◌==◌, ap, sym, option_and_then, position, slice_get, Some, None}
use Rattle.std.proofs.lemmas.Bool.{eqb-true}
use Rattle.wf_words.specs.Found.{get_position, passes, some_at}
use Rattle.wf_objects.proofs.objects.Objects.live_place.Goals as goal
use Rattle.wf_objects.proofs.objects.Objects.live_place.Goals.{After-place_of}

-- the place that was found
told : (c : After-place_of) → c.place_of.result ≡ position (λ x. x.handle == c.args.context) c.args.self.now.contexts
told c =
    c.place_of.ensures.place ∙ ap (position (λ x. x.handle == c.args.context)) (c.deref.ensures.value
    ∙ ap (λ k. k.contexts) c.self.view_is)

pub unreachable-requires : goal.unreachable-requires
unreachable-requires c =
    let cs = c.args.self.now.contexts in
    let context = some_at (λ x. x.handle == c.args.context) cs c.requires in
    let both : None ≡ Some context.0 =
    ap (option_and_then (slice_get cs)) (sym c.in_default.is ∙ told (goal.at.unreachable-requires c).After-place_of)
    ∙ get_position (λ x. x.handle == c.args.context) cs ∙ context.1 in
    cc

pub returns-clause-here : goal.returns-clause-here
returns-clause-here c =
    let cs = c.args.self.now.contexts in
    let context = some_at (λ x. x.handle == c.args.context) cs c.requires in
    let at : slice_get cs c.in-Some.place ≡ Some context.0 =
    ap (option_and_then (slice_get cs)) (sym c.in-Some.is ∙ told (goal.at.returns-clause-here c).After-place_of)
    ∙ get_position (λ x. x.handle == c.args.context) cs ∙ context.1 in
    rw at (eqb-true context.0.handle c.args.context (passes (λ x. x.handle == c.args.context) cs context.0 context.1))
