use Rattle.std.proofs.Common.{[], ◌∷◌}
use Rattle.wf_stream.specs.Names.{still_counted}
use Rattle.wf_display.proofs.PipelineNames.{both_end, second_ends}
use Rattle.wf_display.proofs.naming.end_names.Goals as goal

pub end_name-requires-in-Some-clause-counted : goal.end_name-requires-in-Some-clause-counted
end_name-requires-in-Some-clause-counted c =
    still_counted c.args.store.now c.end_name.new.store (c.args.pipeline.current ∷ []) [] c.requires.counted c.end_name.ensures.names

pub end_name-requires-in-Some-clause-named : goal.end_name-requires-in-Some-clause-named
end_name-requires-in-Some-clause-named c =
    second_ends c.args.pipeline.current c.in-Some.stream c.args.store.now c.end_name.new.store (rw c.in-Some.is at c.requires)
    c.end_name.ensures.names

pub returns-in-Some-clause-names : goal.returns-in-Some-clause-names
returns-in-Some-clause-names c =
    rw c.in-Some.is (both_end c.args.pipeline.current c.in-Some.stream c.args.store.now c.end_name.new.store
    c.end_name-in-Some.new.store c.requires.counted c.end_name.ensures.names c.end_name-in-Some.ensures.names)
