use Rattle.wf_links.proofs.Represented.{orderly}
use Rattle.wf_links.proofs.links.Links.lowest.Goals as goal

pub returns-clause-orderly : goal.returns-clause-orderly
returns-clause-orderly c = rw (← c.self.view_is) (orderly _ _ _ c.self.invariant)
