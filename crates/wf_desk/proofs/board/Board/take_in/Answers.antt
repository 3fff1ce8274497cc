use Rattle.std.proofs.Common.{rules}
use Rattle.wf_desk.proofs.Seats.{gathers}
use Rattle.wf_desk.proofs.board.Board.take_in.Goals as goal

pub join_seat-requires : goal.join_seat-requires
join_seat-requires g c =
    (search rules, search rules, search rules, search rules, gathers _ _ _ _ _ _ _ _ c.requires.rest.0 c.into_seat.ensures.rest.0)
