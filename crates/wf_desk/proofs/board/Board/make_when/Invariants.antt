use Rattle.std.proofs.Common.{◌≡◌, []}
use Rattle.wf_desk.specs.declared.view.Stage.TheVariants.{Idle}
use Rattle.wf_desk.specs.Plays.{at_stage}
use Rattle.wf_desk.specs.History.{IsPrefix}
use Rattle.wf_desk.proofs.board.Board.make_when.Given as goal

abbrev pub invariant-loop : goal.invariant-loop
invariant-loop g l = (l.seat.table_id ≡ l.initial.seat.table_id) × (l.seat.id ≡ l.initial.seat.id)
    × (l.seat.me ≡ (at_stage l.initial.seat.me.0 Idle l.seat.me.0.seen, [])) × IsPrefix l.initial.seat.me.0.seen l.seat.me.0.seen
