use Rattle.wf_scene.proofs.Standing.{once_after}
use Rattle.wf_scene.proofs.laws.each_stands_once.Goals as goal

pub returns : goal.returns
returns c scene moves handle none there = once_after scene moves handle none there
