use Rattle.wf_stream.specs.Names.{Recounts}
use Rattle.wf_model.specs.Names.{core_names}
use Rattle.wf_stream.specs.Renames.{named_again, then_named}
use Rattle.wf_objects.proofs.ObjectsLoseTheirs.{links_stay, unlinked}
use Rattle.wf_objects.proofs.objects.Objects.drop_context.Goals as goal
use Rattle.wf_objects.proofs.objects.Objects.drop_context.Goals.{After-drop_elements}

-- the names when links and elements are gone
bare : (c : After-drop_elements) → Recounts (core_names c.args.self.now) (core_names c.drop_elements.new.self) c.args.store.now
    c.drop_elements.new.store
bare c =
    then_named c.args.store.now c.drop_links.new.store c.drop_elements.new.store (core_names c.args.self.now)
    (core_names c.drop_links.new.self) (core_names c.drop_elements.new.self) c.requires.names.counted
    c.drop_links.ensures.names c.drop_elements.ensures.names

pub drop_elements-requires-clause-names : goal.drop_elements-requires-clause-names
drop_elements-requires-clause-names c =
    named_again c.args.store.now c.drop_links.new.store (core_names c.args.self.now) (core_names c.drop_links.new.self) c.requires.names
    c.drop_links.ensures.names

pub drop_bare_context-requires-clause-names : goal.drop_bare_context-requires-clause-names
drop_bare_context-requires-clause-names c =
    named_again c.args.store.now c.drop_elements.new.store (core_names c.args.self.now) (core_names c.drop_elements.new.self)
    c.requires.names (bare (goal.at.drop_bare_context-requires-clause-names c).After-drop_elements)

pub drop_bare_context-requires-clause-unlinked : goal.drop_bare_context-requires-clause-unlinked
drop_bare_context-requires-clause-unlinked c =
    λ mask. rw (
      links_stay c.args.context c.drop_elements.new.self c.drop_links.new.self c.drop_elements.ensures.rest mask,
      c.drop_links.ensures.dropped,
    ) (unlinked c.args.context c.args.self.now mask)

pub returns-clause-names : goal.returns-clause-names
returns-clause-names c =
    then_named c.args.store.now c.drop_elements.new.store c.drop_bare_context.new.store (core_names c.args.self.now)
    (core_names c.drop_elements.new.self) (core_names c.drop_bare_context.new.self) c.requires.names.counted
    (bare (goal.at.returns-clause-names c).After-drop_elements) c.drop_bare_context.ensures.names
