use Rattle.std.proofs.Common.{rules, refl}
use Rattle.wf_desk.proofs.Tickets.{draws}
use Rattle.wf_desk.proofs.board.Board.draw.Goals as goal

pub compare_exchange-found-requires : goal.compare_exchange-found-requires
compare_exchange-found-requires g c = (search rules, search rules, draws _ _ _ _ _ _ _ _ _ (search rules) refl (search rules))
