use Rattle.std.proofs.Common.{rules}
use Rattle.wf_desk.proofs.HistoryGrows.{records}
use Rattle.wf_desk.proofs.board.Board.record.Goals as goal

pub fetch_add-requires : goal.fetch_add-requires
fetch_add-requires g c =
    let turn = c.requires.turn in let m = c.requires.may in let h = c.requires.hand in
    (search rules, search rules, records _ _ _ _ _ _ turn.0 _ _ _ h.0 m.0 c.requires.event m.1 turn.1 h.1 h.2 c.requires.left m.2)

pub overflow_cast-result : goal.overflow_cast-result
overflow_cast-result g c = let told = c.fetch_add.ensures.2 _ c.requires.event in search (rules, told.1)

pub returns-clause-at : goal.returns-clause-at
returns-clause-at g c = let told = c.fetch_add.ensures.2 _ c.requires.event in told.0
