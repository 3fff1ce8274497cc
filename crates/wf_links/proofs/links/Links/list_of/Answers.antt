use Rattle.wf_links.proofs.Represented.{list_read, orderly}
use Rattle.wf_links.proofs.links.Links.list_of.Goals as goal

pub returns-clause-list : goal.returns-clause-list
returns-clause-list c =
    let within = rw (← c.self.view_is) at c.requires in
    rw (← c.self.view_is) (list_read _ _ _ c.args.node c.index.result.now c.self.invariant within c.index.ensures)

pub returns-clause-orderly : goal.returns-clause-orderly
returns-clause-orderly c = rw (← c.self.view_is) (orderly _ _ _ c.self.invariant)
