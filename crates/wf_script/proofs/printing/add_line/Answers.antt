use Rattle.wf_script.proofs.Tokens.{line_adds, words_both}
use Rattle.wf_script.proofs.printing.add_line.Goals as goal

pub returns-clause-adds : goal.returns-clause-adds
returns-clause-adds g c =
    line_adds g.K.Sink.took g.K.Sink.faults _ _ _ _ _ _ _ _ _ _ c.add_count.ensures.adds
    (words_both g.K.Sink.took g.K.Sink.faults _ _ _ _ _ _ _ _ c.add_binding.ensures.adds c.add_verb.ensures.adds) c.add.ensures.adds
