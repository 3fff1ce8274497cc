use Rattle.std.proofs.Common.{◌∙◌, sym}
use Rattle.std.proofs.lemmas.Result.{err_from_is_err_and}
use Rattle.wf_film.proofs.JournalLaws.{broken_turn, no_more_turns, one_turn}
use Rattle.wf_film.proofs.journal.turns_of.Goals as goal

pub returns-in_err-turn : goal.returns-in_err-turn
returns-in_err-turn c =
    let p = err_from_is_err_and c.from_residual-in_err-turn.result c.from_residual-in_err-turn.ensures.1 in
    rw (p.1, p.2)
    (sym c.loop.invariant
    ∙ broken_turn c.loop.turns.items c.args.count c.loop.counter c.loop.rest.now _ c.loop-test.true c.in_err-turn.ensures)

pub loop-preserved : goal.loop-preserved
loop-preserved c =
    rw c.in_ok-push.ensures.items
    (sym (one_turn c.loop.turns.items c.args.count c.loop.counter c.loop.rest.now c.in_ok-turn.behind.now c.in_ok-turn.turn
    c.loop-test.true c.in_ok-turn.ensures) ∙ c.loop.invariant)

pub returns : goal.returns
returns c =
    sym c.loop.invariant ∙ no_more_turns c.loop.turns.items c.args.count c.loop.counter c.loop.rest.now c.loop-test.false
