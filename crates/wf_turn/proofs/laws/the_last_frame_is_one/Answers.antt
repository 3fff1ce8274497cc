use Rattle.wf_turn.proofs.OneLastFrame.{one_image}
use Rattle.wf_turn.proofs.laws.the_last_frame_is_one.Goals as goal

pub returns : goal.returns
returns c script order stream image other one two = one_image script order stream image other one two
