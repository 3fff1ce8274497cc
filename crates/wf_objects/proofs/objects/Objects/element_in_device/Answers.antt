use Rattle.std.proofs.Common.{◌≡◌, ◌∙◌, sym, ap, option_and_then, slice_get}
use Rattle.wf_objects.specs.Owners.{of_device, of_element}
use Rattle.wf_objects.proofs.Lookups.{owner_is}
use Rattle.wf_objects.proofs.Owners.{found_lives}
use Rattle.wf_objects.proofs.objects.Objects.element_in_device.Goals as goal

-- the context at the place that was found
found : (c : goal.After-place_in_device) → option_and_then (slice_get c.args.self.now.contexts) c.place_in_device.result
    ≡ of_element c.args.device c.args.element c.args.self.now.contexts
found c =
    let a = c.args in
    c.place_in_device.ensures.found
    ∙ sym (owner_is a.self.now a.store.now c.requires.handles a.device a.element
    ∙ ap (option_and_then (λ owner. of_device a.device owner a.self.now.contexts)) (sym c.key_of.ensures ∙ c.in-Some.is))

pub returns-in-Some-clause-found : goal.returns-in-Some-clause-found
returns-in-Some-clause-found c = found c

pub returns-in-Some-clause-lives : goal.returns-in-Some-clause-lives
returns-in-Some-clause-lives c = found_lives c.args.device c.args.self.now c.args.element c.place_in_device.result (found c)

pub returns-in-None-clause-found : goal.returns-in-None-clause-found
returns-in-None-clause-found c =
    let a = c.args in
    sym (owner_is a.self.now a.store.now c.requires.handles a.device a.element
    ∙ ap (option_and_then (λ owner. of_device a.device owner a.self.now.contexts)) (sym c.key_of.ensures ∙ c.in-None.is))
