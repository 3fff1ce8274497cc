use Rattle.wf_turn.proofs.ScreensKeepImages.{screen_has_image}
use Rattle.wf_turn.proofs.laws.each_screen_keeps_an_image.Goals as goal

pub returns : goal.returns
returns c script order port number from to ended free = screen_has_image script order port number from to ended free
