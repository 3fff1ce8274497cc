use Rattle.std.proofs.Common.{◌≡◌, [], ◌++◌, List, vec_len}
use Rattle.wf_desk.specs.declared.view.Stage.TheVariants.{Idle}
use Rattle.wf_desk.specs.Pass.{Known}
use Rattle.wf_desk.specs.Ending.{hands_of, AllOwn}
use Rattle.wf_desk.proofs.board.Board.gather.Given as goal

abbrev pub invariant-loop-pass : goal.invariant-loop-pass
invariant-loop-pass g l = (l.seat.table_id ≡ l.self.table.shared.table_id) × (l.seat.me.0.stage ≡ Idle) × (l.seat.me.1 ≡ [])
    × ((gone : List (Known g.row.O.Denot g.row.O-Call.Denot g.row.O-Reply.Denot)) × (l.fn.passes.items ≡ l.passes.items ++ gone)
    × (l.seat.me.0.hands ≡ hands_of gone) × AllOwn gone)

abbrev pub decreases-loop-pass : goal.decreases-loop-pass
decreases-loop-pass g l = vec_len l.passes
