use Rattle.wf_io.proofs.Sums.{lanes_added_up}
use Rattle.wf_io.proofs.lanes.lane_sum.Goals as goal

pub returns : goal.returns
returns c = lanes_added_up c.args.lanes
