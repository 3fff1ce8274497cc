use Rattle.wf_machine.proofs.FrameNames.{both_begun}
use Rattle.wf_machine.proofs.naming.begin_names.Goals as goal

pub returns-clause-begins : goal.returns-clause-begins
returns-clause-begins c =
    both_begun _ _ _ _ _ c.requires.counted c.begin_target.ensures.begins c.begin_contents.ensures.begins
