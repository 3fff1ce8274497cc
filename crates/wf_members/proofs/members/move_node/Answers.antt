use Rattle.wf_members.proofs.Moved.{removed_absent}
use Rattle.wf_members.proofs.members.move_node.Goals as goal

pub insert_above-requires-clause-free : goal.insert_above-requires-clause-free
insert_above-requires-clause-free c = rw c.remove.ensures.removed (removed_absent c.args.node c.args.links.now.lists)
