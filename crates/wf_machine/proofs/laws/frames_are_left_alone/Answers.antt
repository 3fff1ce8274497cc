use Rattle.wf_machine.proofs.LeftAlone.{left_alone}
use Rattle.wf_machine.proofs.laws.frames_are_left_alone.Goals as goal

pub returns : goal.returns
returns c h client call m f still runs = left_alone h client call m f still runs
