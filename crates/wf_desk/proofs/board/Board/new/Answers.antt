use Rattle.wf_desk.proofs.Seats.{opens_with}
use Rattle.wf_desk.proofs.board.Board.new.Goals as goal

pub new-requires : goal.new-requires
new-requires g c =
    let j = c.requires.journal in
    opens_with g.O.Object.after g.O.Object.may g.O.Object.entry_of _ _ _ _ c.in_ok-slots.ensures.items
    c.push_reserved.ensures.items
    c.requires.object j.0 j.1 c.requires.sum
