use Rattle.wf_show.proofs.OrderOfAHistory.{is_order}
use Rattle.wf_show.proofs.laws.clients_make_an_order.Goals as goal

pub returns : goal.returns
returns c script setup rest whole = is_order script setup rest whole
