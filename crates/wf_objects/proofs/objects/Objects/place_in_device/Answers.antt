use Rattle.std.proofs.Common.{◌≡◌, ◌==◌, ◌∙◌, sym, ap, option_and_then, position, slice_get}
use Rattle.wf_objects.specs.Owners.{of_device}
use Rattle.wf_objects.proofs.Lookups.{placed, not_placed, none_placed}
use Rattle.wf_objects.proofs.Owners.{found_here}
use Rattle.wf_objects.proofs.objects.Objects.place_in_device.Goals as goal

-- the context at the place that was found
found : (c : goal.After-place_of) → option_and_then (slice_get c.args.self.now.contexts) c.place_of.result
    ≡ of_device c.args.device c.args.context c.args.self.now.contexts
found c =
    let a = c.args in
    placed a.self.now a.store.now c.requires.handles a.device a.context c.in-Some.owner _ (sym c.key_of.ensures
    ∙ c.in-Some.is) c.if-owner-device.true
    (c.place_of.ensures.place ∙ ap (position (λ x. x.handle == a.context)) (c.deref.ensures.value
    ∙ ap (λ k. k.contexts) c.self.view_is))

pub returns-in-Some-clause-found : goal.returns-in-Some-clause-found
returns-in-Some-clause-found c = found c

pub returns-in-Some-clause-here : goal.returns-in-Some-clause-here
returns-in-Some-clause-here c = found_here c.args.device c.args.self.now c.args.context c.place_of.result (found c)

pub returns-in_default-clause-found : goal.returns-in_default-clause-found
returns-in_default-clause-found c =
    let a = c.args in
    not_placed a.self.now a.store.now c.requires.handles a.device a.context c.in-Some.owner (sym c.key_of.ensures ∙ c.in-Some.is)
    c.if-owner-device.false

pub returns-in_default-2-clause-found : goal.returns-in_default-2-clause-found
returns-in_default-2-clause-found c =
    let a = c.args in
    none_placed a.self.now a.store.now c.requires.handles a.device a.context (sym c.key_of.ensures ∙ c.in_default.is)
