use Rattle.wf_play.proofs.logged.play_events.Goals as goal

pub returns-in-Ok-clause-caused : goal.returns-in-Ok-clause-caused
returns-in-Ok-clause-caused g c =
    c.log_parts.ensures.caused (g.I.Source.faults c.args.input.now) (g.I.Source.faults c.read_all.new.s)
