use Rattle.std.proofs.Common.{sym, subst}
use Rattle.wf_desk.specs.Ending.{Ends}
use Rattle.wf_desk.proofs.TableAtTheEnd.{closes, not_empty, taken}
use Rattle.wf_desk.proofs.board.Board.end.Goals as goal

pub unreachable-requires : goal.unreachable-requires
unreachable-requires g c =
    let f = closes g.O.Object.after g.O.Object.may g.O.Object.entry_of _ _ _ _ _
    c.close_with-closed.ensures.values.2 c.requires.place.1 c.requires.all in
    not_empty g.O.Object.after g.O.Object.may g.O.Object.entry_of c.args.self.table.shared.key _ f.0 _ f.1 c.take-home.ensures.value
    c.in_default.is

pub returns : goal.returns
returns g c =
    let f = closes g.O.Object.after g.O.Object.may g.O.Object.entry_of _ _ _ _ _
    c.close_with-closed.ensures.values.2 c.requires.place.1 c.requires.all in
    subst (λ journal. Ends g.O.Object.after g.O.Object.may g.O.Object.entry_of c.args.self.table.shared.key c.args.seat.me.0.hands
    c.in-Some.field-0.object journal) (sym c.new.ensures)
    (taken g.O.Object.after g.O.Object.may g.O.Object.entry_of _ _ _ f.0 c.in-Some.field-0 _
    f.1 c.take-home.ensures.value c.in-Some.is f.2)
