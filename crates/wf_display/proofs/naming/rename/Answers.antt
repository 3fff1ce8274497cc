use Rattle.wf_model.specs.Names.{pipeline_names}
use Rattle.wf_display.proofs.PipelineNames.{begun_fit, replaced}
use Rattle.wf_display.proofs.naming.rename.Goals as goal

pub end_names-requires : goal.end_names-requires
end_names-requires c =
    begun_fit c.args.store.now c.begin_names.new.store (pipeline_names c.args.old) (pipeline_names c.args.new) c.requires.names
    c.begin_names.ensures.names

pub returns-clause-names : goal.returns-clause-names
returns-clause-names c =
    replaced c.args.store.now c.begin_names.new.store c.end_names.new.store (pipeline_names c.args.old) (pipeline_names c.args.new)
    c.requires.names.counted c.begin_names.ensures.names c.end_names.ensures.names
