use Rattle.wf_io.proofs.Sums.{added_count, added_sum}
use Rattle.wf_io.proofs.lanes.added.Goals as goal

pub returns-clause-count : goal.returns-clause-count
returns-clause-count c = added_count 8 c.args.x c.args.y c.requires.x c.requires.y

pub returns-clause-sum : goal.returns-clause-sum
returns-clause-sum c = added_sum 8 c.args.x c.args.y c.requires.x c.requires.y
