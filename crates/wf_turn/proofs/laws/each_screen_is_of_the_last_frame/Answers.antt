use Rattle.wf_turn.proofs.Screens.{screens_show_last}
use Rattle.wf_turn.proofs.laws.each_screen_is_of_the_last_frame.Goals as goal

pub returns : goal.returns
returns c script order port image declared has = screens_show_last script order port image declared has
