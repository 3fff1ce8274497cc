use Rattle.std.proofs.Common.{[], ◌∷◌}
use Rattle.wf_desk.specs.History.{event}
use Rattle.wf_desk.proofs.board.Board.finish.Given as goal

abbrev pub ghosts-record : goal.ghosts-record
ghosts-record g a = record {
  event = event a.client (g.P.Operation.call a.asked.now.value) (g.P.Operation.reply a.answer.now) ∷ [];
}
