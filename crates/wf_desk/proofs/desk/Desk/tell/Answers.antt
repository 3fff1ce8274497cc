use Rattle.std.proofs.Common.{rules, sym, ap, ◌∙◌, subst, ◌≡◌, Some}
use Rattle.wf_desk.specs.Inside.{known}
use Rattle.wf_desk.specs.Plays.{at_stage, noting, AllMine}
use Rattle.wf_desk.specs.History.{IsLegal, IsPrefix}
use Rattle.wf_desk.proofs.Seats.{notes, tells}
use Rattle.wf_desk.proofs.HistoryGrows.{catches}
use Rattle.wf_desk.proofs.Passes.{sits_told, known_told, sits_same, sits_own}
use Rattle.wf_desk.proofs.desk.Desk.tell.Goals as goal

pub split_seat-note-requires : goal.split_seat-note-requires
split_seat-note-requires g c = (search rules, search rules, notes _ _ _ _ _ _ c.from.invariant.idle)

pub join_seat-requires : goal.join_seat-requires
join_seat-requires g c =
    let note = c.split_seat-note.ensures.4 in (
      search rules,
      search rules,
      search rules,
      search rules,
      tells _ _ _ _ _ _ _ _ c.to.invariant.idle (ap (λ m. m.0.stage) note) (ap (λ m. m.0.hands) note),
    )

pub load-requires : goal.load-requires
load-requires g c = (search rules, search rules, catches _ _ _ _ _ _ _ (ap (λ m. m.0.stage) c.join_seat.ensures.2 ∙ c.to.invariant.idle))

pub invariant_of-from : goal.invariant_of-from
invariant_of-from g c = sits_same g.O.Object.after g.O.Object.may c.from.inside.seat _ _ _ _ c.from.invariant c.split_seat-note.ensures.2

pub invariant_of-to : goal.invariant_of-to
invariant_of-to g c =
    let joined = c.join_seat.ensures.2 in let loaded = c.load.ensures.2 in let to = c.to.inside in
    sits_told g.O.Object.after g.O.Object.may to.seat c.load.new.seat to.client to.left to.place c.to.invariant
    c.split_seat-note.result.me.0 loaded.0
    (loaded.1 ∙ (ap (λ m. (at_stage m.0 m.0.stage loaded.0, m.1)) joined
    ∙ ap (λ held. (at_stage (noting to.seat.me.0 c.split_seat-note.result.me.0) to.seat.me.0.stage loaded.0, held))
    c.to.invariant.free))
    (subst (λ m. IsPrefix m.0.seen loaded.0) joined loaded.2)
    (subst (λ m. AllMine loaded.0 m.0.hands) joined loaded.4)
    (subst (λ m. (k : _) → m.0.key ≡ Some k → IsLegal g.O.Object.after g.O.Object.may k.opening.value loaded.0) joined loaded.5)

pub returns-clause-same : goal.returns-clause-same
returns-clause-same g c =
    let joined = c.join_seat.ensures.2 in let loaded = c.load.ensures.2 in let to = c.to.inside in
    subst (λ k. known c.load.new.seat to.client to.left to.place ≡ record k { seen = c.load.new.seat.me.0.seen }) c.to.view_is
    (known_told g.O.Object.after g.O.Object.may to.seat c.load.new.seat to.client to.left to.place c.to.invariant
    (ap (λ m. m.0.key) loaded.1 ∙ ap (λ m. m.0.key) joined) (c.load.ensures.0 ∙ c.join_seat.ensures.0)
    (subst (λ s. AllMine s to.seat.me.0.hands) (sym (ap (λ m. m.0.seen) loaded.1))
    (subst (λ m. AllMine loaded.0 m.0.hands) joined loaded.4)))

pub returns-clause-own : goal.returns-clause-own
returns-clause-own g c =
    let joined = c.join_seat.ensures.2 in let loaded = c.load.ensures.2 in let to = c.to.inside in
    sits_own g.O.Object.after g.O.Object.may c.load.new.seat to.client to.left to.place
    (sits_told g.O.Object.after g.O.Object.may to.seat c.load.new.seat to.client to.left to.place c.to.invariant
    c.split_seat-note.result.me.0 loaded.0
    (loaded.1 ∙ (ap (λ m. (at_stage m.0 m.0.stage loaded.0, m.1)) joined
    ∙ ap (λ held. (at_stage (noting to.seat.me.0 c.split_seat-note.result.me.0) to.seat.me.0.stage loaded.0, held))
    c.to.invariant.free))
    (subst (λ m. IsPrefix m.0.seen loaded.0) joined loaded.2)
    (subst (λ m. AllMine loaded.0 m.0.hands) joined loaded.4)
    (subst (λ m. (k : _) → m.0.key ≡ Some k → IsLegal g.O.Object.after g.O.Object.may k.opening.value loaded.0) joined loaded.5))
