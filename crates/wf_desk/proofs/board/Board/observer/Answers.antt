use Rattle.std.proofs.Common.{rules}
use Rattle.wf_desk.proofs.Seats.{notes}
use Rattle.wf_desk.proofs.Passes.{sits_same}
use Rattle.wf_desk.proofs.board.Board.observer.Goals as goal

pub split_seat-requires : goal.split_seat-requires
split_seat-requires g c = (search rules, search rules, notes _ _ _ _ _ _ c.pass.invariant.idle)

pub invariant_of-pass : goal.invariant_of-pass
invariant_of-pass g c = sits_same g.O.Object.after g.O.Object.may c.pass.inside.seat _ _ _ _ c.pass.invariant c.split_seat.ensures.2
