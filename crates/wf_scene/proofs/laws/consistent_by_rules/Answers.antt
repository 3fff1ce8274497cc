use Rattle.wf_scene.proofs.Rules.{ok_by_rules}
use Rattle.wf_scene.proofs.laws.consistent_by_rules.Goals as goal

pub returns : goal.returns
returns c sight cached = ok_by_rules sight cached
