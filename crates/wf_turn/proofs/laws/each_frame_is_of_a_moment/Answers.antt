use Rattle.wf_turn.proofs.Moments.{of_moments}
use Rattle.wf_turn.proofs.laws.each_frame_is_of_a_moment.Goals as goal

pub returns : goal.returns
returns c script order = of_moments script order
