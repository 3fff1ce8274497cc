use Rattle.wf_machine.proofs.Counts.{seen_settled}
use Rattle.wf_machine.proofs.parts.Parts.prove_all_named.Goals as goal

pub returns : goal.returns
returns c = seen_settled c.self.inside _ c.self.view_is c.self.invariant
