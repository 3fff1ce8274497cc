use Rattle.wf_model.specs.Names.{core_names}
use Rattle.wf_objects.specs.Ours.{AreOurs, ours_again, ours_room}
use Rattle.tests_memory.proofs.composition.made.Goals as goal
use Rattle.tests_memory.proofs.composition.made.Goals.{After-element_new, After-source_new, After-stream_context}

-- the names after each creation

off_screen : (c : After-stream_context) → AreOurs (core_names c.stream_context.new.self) c.stream_context.new.store
off_screen c =
    ours_again c.screened-context.new.store c.stream_context.new.store (core_names c.screened-context.new.core)
    (core_names c.stream_context.new.self) c.screened-context.ensures.ours c.stream_context.ensures.names

with_element : (c : After-element_new) → AreOurs (core_names c.element_new.new.self) c.element_new.new.store
with_element c =
    ours_again c.stream_context.new.store c.element_new.new.store (core_names c.stream_context.new.self) (core_names c.element_new.new.self)
    (off_screen (goal.at.After-element_new c).After-stream_context) c.element_new.ensures.names

with_source : (c : After-source_new) → AreOurs (core_names c.source_new.new.self) c.source_new.new.store
with_source c =
    ours_again c.element_new.new.store c.source_new.new.store (core_names c.element_new.new.self) (core_names c.source_new.new.self)
    (with_element (goal.at.After-source_new c).After-element_new) c.source_new.ensures.names

pub screened-context-requires-clause-ours : goal.screened-context-requires-clause-ours
screened-context-requires-clause-ours c =
    ours_again c.args.store.now c.device_new.new.store (core_names c.args.core.now) (core_names c.device_new.new.self) c.requires.ours
    c.device_new.ensures.names

pub stream_context-requires-clause-names : goal.stream_context-requires-clause-names
stream_context-requires-clause-names c = c.screened-context.ensures.ours.fit

pub stream_context-requires-clause-room : goal.stream_context-requires-clause-room
stream_context-requires-clause-room c =
    ours_room (core_names c.screened-context.new.core) c.screened-context.new.store c.screened-context.ensures.ours
    c.prove_few_names.ensures

pub source_new-requires-clause-names : goal.source_new-requires-clause-names
source_new-requires-clause-names c = (with_element (goal.at.source_new-requires-clause-names c).After-element_new).fit

pub source_new-requires-clause-room : goal.source_new-requires-clause-room
source_new-requires-clause-room c =
    ours_room (core_names c.element_new.new.self) c.element_new.new.store
    (with_element (goal.at.source_new-requires-clause-room c).After-element_new) c.prove_few_names-2.ensures

pub mask_new-requires-clause-names : goal.mask_new-requires-clause-names
mask_new-requires-clause-names c = (with_source (goal.at.mask_new-requires-clause-names c).After-source_new).fit

pub mask_new-requires-clause-room : goal.mask_new-requires-clause-room
mask_new-requires-clause-room c =
    ours_room (core_names c.source_new.new.self) c.source_new.new.store
    (with_source (goal.at.mask_new-requires-clause-room c).After-source_new) c.prove_few_names-3.ensures
