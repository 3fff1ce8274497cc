use Rattle.wf_turn.proofs.FramesShowLast.{all_show_last}
use Rattle.wf_turn.proofs.laws.each_frame_shows_what_ended_last.Goals as goal

pub returns : goal.returns
returns c script order = all_show_last script order
