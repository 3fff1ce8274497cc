use Rattle.std.proofs.Common.{ap, ◌∙◌, subst, []}
use Rattle.wf_desk.specs.declared.view.Stage.TheVariants.{Idle}
use Rattle.wf_desk.specs.Plays.{at_stage, grown}
use Rattle.wf_desk.specs.History.{event}
use Rattle.wf_desk.proofs.Events.{asked, answered, legal_after, finds_at}
use Rattle.wf_desk.proofs.board.Board.finish.Goals as goal

pub record-at-requires-clause-may : goal.record-at-requires-clause-may
record-at-requires-clause-may g c κs within =
    let f = c.requires.finds in (
      f.0,
      f.1,
      asked g.O.Object.after g.O.Object.may g.O.Object.entry_of f.0 c.args.seat.now.me.0 c.args.home
          (event _ _ _) _ (ap g.P.Operation.call c.of-asked.ensures) f.2 c.answer-answer.ensures.may,
    )

pub leave-requires-clause-home : goal.leave-requires-clause-home
leave-requires-clause-home g c κs within =
    let f = c.requires.finds in let back = c.put.ensures.put in let a = c.answer-answer.ensures in
    let reply = g.P.Operation.reply c.answer-answer.result in
    let grew = ap (λ m. m.0) back ∙ (ap (λ m. m.0) c.record-at.ensures.grown
    ∙ ap (λ x. grown c.args.seat.now.me.0 (event c.args.client (g.P.Operation.call x) reply)) c.of-asked.ensures) in (
      _,
      ap (λ m. m.1) back,
      f.0,
      ap (λ v. v.key) grew ∙ f.1,
      answered g.O.Object.after g.O.Object.may g.O.Object.entry_of f.0 c.args.seat.now.me.0 c.put.new.seat.me.0 c.args.home
          c.answer-answer.new.self (event c.args.client (g.P.Operation.call c.args.op) reply)
          grew f.2 a.object a.entry a.room,
    )

pub returns-clause-made : goal.returns-clause-made
returns-clause-made g c =
    let reply = g.P.Operation.reply c.answer-answer.result in
    let grew = ap (λ m. m.0) c.put.ensures.put ∙ (ap (λ m. m.0) c.record-at.ensures.grown
    ∙ ap (λ x. grown c.args.seat.now.me.0 (event c.args.client (g.P.Operation.call x) reply)) c.of-asked.ensures) in
    c.leave.ensures.idle ∙ ap (λ y. (at_stage y Idle y.seen, [])) grew

pub returns-clause-legal : goal.returns-clause-legal
returns-clause-legal g c k named =
    let f = finds_at g.O.Object.after g.O.Object.may g.O.Object.entry_of c.args.seat.now.me.0 _ c.args.home
    c.requires.finds k named in
    legal_after g.O.Object.after g.O.Object.may g.O.Object.entry_of k _ c.args.home
    (event _ _ _) f.0 f.1 c.answer-answer.ensures.may

pub returns-clause-may : goal.returns-clause-may
returns-clause-may g c k named =
    let f = finds_at g.O.Object.after g.O.Object.may g.O.Object.entry_of c.args.seat.now.me.0 c.args.seat.now.me.0.seen c.args.home
    c.requires.finds k named in
    subst (λ o. g.O.Object.may o c.args.client (g.P.Operation.call c.args.op) (g.P.Operation.reply c.answer-answer.result)) f.0.0
    c.answer-answer.ensures.may
