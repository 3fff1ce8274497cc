use Rattle.wf_turn.proofs.Numbers.{all_tell_places}
use Rattle.wf_turn.proofs.laws.each_frame_tells_its_place.Goals as goal

pub returns : goal.returns
returns c = λ script order. all_tell_places script order
