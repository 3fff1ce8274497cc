use Rattle.std.proofs.Common.{rules}
use Rattle.wf_desk.proofs.Tickets.{leaves}
use Rattle.wf_desk.proofs.board.Board.leave.Goals as goal

pub fetch_add-spent-requires : goal.fetch_add-spent-requires
fetch_add-spent-requires g c =
    let turn = c.requires.turn in let h = c.requires.home in
    (search rules, search rules, leaves _ _ _ _ _ _ turn.0 _ h.0 h.2 h.3 c.args.self.now.sized.1 turn.1 h.1 h.4)
