use Rattle.wf_script.proofs.Tokens.{line_adds}
use Rattle.wf_script.proofs.printing.add_port.Goals as goal

pub returns-clause-adds : goal.returns-clause-adds
returns-clause-adds g c =
    line_adds g.K.Sink.took g.K.Sink.faults _ _ _ _ _ _ _ _ _ _ c.add.ensures.adds
    (rw c.as_slice.ensures.value at c.add_sizes.ensures.adds) c.add-2.ensures.adds
