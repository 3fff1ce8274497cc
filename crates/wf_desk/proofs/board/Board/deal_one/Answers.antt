use Rattle.std.proofs.Common.{ap}
use Rattle.wf_desk.specs.Plays.{head_of}
use Rattle.wf_desk.proofs.Passes.{sits_fresh}
use Rattle.wf_desk.proofs.board.Board.deal_one.Goals as goal

pub invariant_of-result : goal.invariant_of-result
invariant_of-result g c =
    sits_fresh g.O.Object.after g.O.Object.may _ c.args.root.now.me.0 _ _ c.args.left
    c.deal-seat.ensures.seat.1 c.requires.key c.requires.next (ap head_of c.requires.left.1)
