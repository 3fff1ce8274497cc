use Rattle.std.proofs.Common.{rules, sym, subst, ap, ◌∙◌, ◌∷◌, Some}
use Rattle.atomic_table.specs.Table.{rest}
use Rattle.wf_desk.specs.Plays.{IsTurn}
use Rattle.wf_desk.proofs.Tickets.{serves}
use Rattle.wf_desk.proofs.Events.{finds_same, same_home}
use Rattle.wf_desk.proofs.board.Board.enter.Goals as goal

pub load-spent-requires : goal.load-spent-requires
load-spent-requires g c =
    let same = c.loop.invariant.2 ∙ c.draw-ticket.ensures.drawn in let hand = c.requires.hand in (
      search rules,
      search rules,
      serves _ _ _ _ _ _ _ c.draw-ticket.result hand.0 (ap (λ m. m.0.hands) same ∙ hand.1) (ap (λ m. m.0.stage) same)
          (ap (λ m. m.1) same ∙ c.requires.idle.1),
    )

pub exchange-requires : goal.exchange-requires
exchange-requires g c =
    let same = c.loop.invariant.2 ∙ c.draw-ticket.ensures.drawn in let k = c.requires.key in
    let t = c.load-spent.ensures.2.0 (subst (IsTurn _) (sym (ap (λ m. m.0.stage) same)) c.if-spent-ticket.true) k.0
    (ap (λ m. m.0.key) same ∙ k.1) in
    let held = ap (λ m. m.1) t.2 in (
      c.load-spent.ensures.0 ∙ (c.loop.invariant.0 ∙ (c.draw-ticket.ensures.place.0 ∙ c.requires.place)),
      (Some t.1, held ∙ ap (λ l. (0, Some t.1) ∷ rest l) (sym held)),
    )

pub returns-then-spent-ticket-clause-finds : goal.returns-then-spent-ticket-clause-finds
returns-then-spent-ticket-clause-finds g c =
    let same = c.loop.invariant.2 ∙ c.draw-ticket.ensures.drawn in let k = c.requires.key in
    let t = c.load-spent.ensures.2.0 (subst (IsTurn _) (sym (ap (λ m. m.0.stage) same)) c.if-spent-ticket.true) k.0
    (ap (λ m. m.0.key) same ∙ k.1) in
    let out = c.exchange.ensures in
    let home = same_home g.O.Object.after g.O.Object.may g.O.Object.entry_of _ t.1 _ _ _ (ap (λ m. m.1) t.2)
    out.2 c.unwrap.ensures in
    let now = ap (λ m. m.0) out.3 ∙ ap (λ m. m.0) t.2 in
    finds_same g.O.Object.after g.O.Object.may g.O.Object.entry_of _ _ _ _ _ _ (sym now) (sym (ap (λ v. v.seen) now)) home t.5
