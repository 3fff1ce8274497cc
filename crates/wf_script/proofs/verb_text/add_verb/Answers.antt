use Rattle.wf_script.proofs.Tokens.{words_both}
use Rattle.wf_script.proofs.verb_text.add_verb.Goals as goal

pub returns-clause-adds : goal.returns-clause-adds
returns-clause-adds g c =
    rw (← c.told-told.ensures)
    (words_both g.K.Sink.took g.K.Sink.faults _ _ _ _ _ _ _ _
    (words_both g.K.Sink.took g.K.Sink.faults _ _ _ _ _ _ _ _ c.add_words.ensures.adds c.add_all_shown.ensures.adds)
    c.add_end.ensures.adds)
