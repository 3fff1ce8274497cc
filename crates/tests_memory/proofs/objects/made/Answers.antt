use Rattle.std.proofs.Common.{◌==◌, eq-eqb}
use Rattle.wf_words.specs.Found.{any_at}
use Rattle.wf_words.specs.Places.{within}
use Rattle.wf_model.specs.Names.{core_names}
use Rattle.wf_objects.specs.Ours.{AreOurs, ours_again, ours_room}
use Rattle.tests_memory.proofs.objects.made.Goals as goal
use Rattle.tests_memory.proofs.objects.made.Goals.{After-add_context, After-add_device, After-add_element}

-- the names after each creation

with_device : (c : After-add_device) → AreOurs (core_names c.add_device.new.self) c.add_device.new.store
with_device c =
    ours_again c.args.store.now c.add_device.new.store (core_names c.args.objects.now) (core_names c.add_device.new.self) c.requires.ours
    c.add_device.ensures.names

with_context : (c : After-add_context) → AreOurs (core_names c.add_context.new.self) c.add_context.new.store
with_context c =
    ours_again c.add_device.new.store c.add_context.new.store (core_names c.add_device.new.self) (core_names c.add_context.new.self)
    (with_device (goal.at.After-add_context c).After-add_device) c.add_context.ensures.names

with_element : (c : After-add_element) → AreOurs (core_names c.add_element.new.self) c.add_element.new.store
with_element c =
    ours_again c.add_context.new.store c.add_element.new.store (core_names c.add_context.new.self) (core_names c.add_element.new.self)
    (with_context (goal.at.After-add_element c).After-add_context) c.add_element.ensures.names

pub add_context-requires-clause-names : goal.add_context-requires-clause-names
add_context-requires-clause-names c = (with_device (goal.at.add_context-requires-clause-names c).After-add_device).fit

pub add_context-requires-clause-room : goal.add_context-requires-clause-room
add_context-requires-clause-room c =
    ours_room (core_names c.add_device.new.self) c.add_device.new.store
    (with_device (goal.at.add_context-requires-clause-room c).After-add_device) c.prove_few_names.ensures

pub add_link-requires-clause-names : goal.add_link-requires-clause-names
add_link-requires-clause-names c = (with_element (goal.at.add_link-requires-clause-names c).After-add_element).fit

pub add_link-requires-clause-room : goal.add_link-requires-clause-room
add_link-requires-clause-room c =
    ours_room (core_names c.add_element.new.self) c.add_element.new.store
    (with_element (goal.at.add_link-requires-clause-room c).After-add_element) c.prove_few_names-2.ensures

pub add_link-requires-clause-live : goal.add_link-requires-clause-live
add_link-requires-clause-live c =
    let here = c.in_ok-context_place in
    let contexts = c.add_element.new.self.contexts in
    let x = within contexts here.field-0 here.ensures.within in
    any_at (λ y. y.handle == c.in_ok-context.context) contexts here.field-0 x.0 x.1
    (eq-eqb x.0.handle c.in_ok-context.context (rw x.1 at here.ensures.here))
