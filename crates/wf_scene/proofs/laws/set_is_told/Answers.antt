use Rattle.wf_scene.proofs.Answered.{set_told}
use Rattle.wf_scene.proofs.laws.set_is_told.Goals as goal

pub returns : goal.returns
returns c a v change e fits is = set_told a v change e fits is
