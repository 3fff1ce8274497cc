use Rattle.wf_machine.proofs.FrameNames.{more_ended, others_left}
use Rattle.wf_machine.proofs.naming.end_names.Goals as goal

pub end_target-requires : goal.end_target-requires
end_target-requires c = others_left _ _ _ _ c.requires c.end_contents.ensures

pub returns : goal.returns
returns c = more_ended _ _ _ _ _ c.requires.counted c.end_contents.ensures c.end_target.ensures
