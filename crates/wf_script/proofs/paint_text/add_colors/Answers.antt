use Rattle.wf_script.proofs.Tokens.{words_both}
use Rattle.wf_script.proofs.paint_text.add_colors.Goals as goal

pub returns-clause-adds : goal.returns-clause-adds
returns-clause-adds g c =
    words_both g.K.Sink.took g.K.Sink.faults _ _ _ _ _ _ _ _ c.add_color.ensures.adds c.add_color-2.ensures.adds
