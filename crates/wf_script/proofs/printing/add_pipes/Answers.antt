use Rattle.wf_script.proofs.Tokens.{line_adds, pipes_text-some}
use Rattle.wf_script.proofs.printing.add_pipes.Goals as goal

pub returns-clause-adds : goal.returns-clause-adds
returns-clause-adds g c =
    rw (pipes_text-some c.args.pipes c.if-pipes-eq0.false)
    (line_adds g.K.Sink.took g.K.Sink.faults _ _ _ _ _ _ _ _ _ _ c.add.ensures.adds c.add_words.ensures.adds c.add-2.ensures.adds)
