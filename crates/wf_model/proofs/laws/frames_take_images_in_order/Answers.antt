use Rattle.wf_model.proofs.ImagesInOrder.{images_go_in_order}
use Rattle.wf_model.proofs.laws.frames_take_images_in_order.Goals as goal

pub returns : goal.returns
returns k = λ n h calls b at queue stays. images_go_in_order n h calls b at queue stays
