use Rattle.std.proofs.Common.{[], ◌∷◌}
use Rattle.wf_stream.specs.Names.{still_counted}
use Rattle.wf_display.proofs.PipelineNames.{both_begin, second_fits}
use Rattle.wf_display.proofs.naming.begin_names.Goals as goal

pub begin_name-requires-in-Some-clause-counted : goal.begin_name-requires-in-Some-clause-counted
begin_name-requires-in-Some-clause-counted c =
    still_counted c.args.store.now c.begin_name.new.store [] (c.args.pipeline.current ∷ []) c.requires.counted c.begin_name.ensures.names

pub begin_name-requires-in-Some-clause-room : goal.begin_name-requires-in-Some-clause-room
begin_name-requires-in-Some-clause-room c =
    second_fits c.args.pipeline.current c.in-Some.stream c.args.store.now c.begin_name.new.store c.requires.room c.begin_name.ensures.names
    c.begin_name.ensures.none

pub returns-in-Some-clause-names : goal.returns-in-Some-clause-names
returns-in-Some-clause-names c =
    rw c.in-Some.is (both_begin c.args.pipeline.current c.in-Some.stream c.args.store.now c.begin_name.new.store
    c.begin_name-in-Some.new.store c.requires.counted c.begin_name.ensures.names c.begin_name-in-Some.ensures.names)
