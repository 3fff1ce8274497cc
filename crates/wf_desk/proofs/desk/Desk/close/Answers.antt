use Rattle.std.proofs.Common.{sym, subst, length}
use Rattle.wf_desk.specs.Desk.{AreAll, IsClosing}
use Rattle.wf_desk.specs.Ending.{Covers, Ends}
use Rattle.wf_desk.proofs.OneHistoryOfAllPasses.{covers}
use Rattle.wf_desk.proofs.TableAtTheEnd.{closing}
use Rattle.wf_desk.proofs.desk.Desk.close.Goals as goal

pub end-requires-clause-all : goal.end-requires-clause-all
end-requires-clause-all g c κs within =
    let all = subst (λ d. AreAll d.id (length d.quotas) c.args.passes.items) (sym c.self.view_is) c.requires.passes in
    subst (λ hands. Covers hands (length c.self.inside.board.table.shared.key.quotas.items)) (sym c.gather-seat.ensures.hands)
    (covers _ _ _ all)

pub returns : goal.returns
returns g c =
    let all = subst (λ d. AreAll d.id (length d.quotas) c.args.passes.items) (sym c.self.view_is) c.requires.passes in
    let key = c.self.inside.board.table.shared.key in
    subst (λ d. IsClosing g.O.Object.after g.O.Object.may g.O.Object.entry_of d c.args.passes.items c.end.result.0 c.end.result.1)
    c.self.view_is
    (closing g.O.Object.after g.O.Object.may g.O.Object.entry_of key _ c.args.passes.items c.end.result.0 c.end.result.1 all
    c.gather-seat.ensures.own
    (subst (λ hands. Ends g.O.Object.after g.O.Object.may g.O.Object.entry_of key hands c.end.result.0 c.end.result.1)
    c.gather-seat.ensures.hands c.end.ensures))
