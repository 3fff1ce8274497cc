use Rattle.wf_machine.proofs.TakenOnce.{takes_once}
use Rattle.wf_machine.proofs.laws.frames_take_each_image_once.Goals as goal

pub returns : goal.returns
returns c h client call m f free runs = takes_once h client call m f free runs
