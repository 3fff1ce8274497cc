use Rattle.wf_model.specs.Names.{core_names}
use Rattle.wf_objects.specs.Ours.{ours_again}
use Rattle.tests_memory.proofs.composition.screened.Goals as goal

pub returns-clause-ours : goal.returns-clause-ours
returns-clause-ours c =
    ours_again c.args.store.now c.screen_context.new.store (core_names c.args.core.now) (core_names c.screen_context.new.self)
    c.requires.ours c.screen_context.ensures.names
