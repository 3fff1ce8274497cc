use Rattle.std.proofs.Common.{rules}
use Rattle.wf_desk.proofs.Seats.{deals}
use Rattle.wf_desk.proofs.board.Board.deal.Goals as goal

pub split_seat-requires : goal.split_seat-requires
split_seat-requires g c =
    let root = c.requires.root in let more = c.requires.more in
    (search rules, search rules, deals _ _ _ _ _ _ more.0 more.1 root.0 root.1 more.2)
