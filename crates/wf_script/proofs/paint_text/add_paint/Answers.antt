use Rattle.wf_script.proofs.Tokens.{words_both}
use Rattle.wf_script.proofs.paint_text.add_paint.Goals as goal

pub returns-in-Fill-clause-adds : goal.returns-in-Fill-clause-adds
returns-in-Fill-clause-adds g c =
    rw c.in-Fill.is
    (words_both g.K.Sink.took g.K.Sink.faults _ _ _ _ _ _ _ _ c.add_words.ensures.adds c.add_color.ensures.adds)

pub returns-in-Checker-clause-adds : goal.returns-in-Checker-clause-adds
returns-in-Checker-clause-adds g c =
    rw c.in-Checker.is
    (words_both g.K.Sink.took g.K.Sink.faults _ _ _ _ _ _ _ _ c.add_words-in-Checker.ensures.adds c.add_colors.ensures.adds)

pub returns-in-Ramp-clause-adds : goal.returns-in-Ramp-clause-adds
returns-in-Ramp-clause-adds g c =
    rw c.in-Ramp.is
    (words_both g.K.Sink.took g.K.Sink.faults _ _ _ _ _ _ _ _ c.add_words-in-Ramp.ensures.adds c.add_colors-in-Ramp.ensures.adds)
