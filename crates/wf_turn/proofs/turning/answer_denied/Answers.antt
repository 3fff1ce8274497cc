use Rattle.wf_turn.proofs.Common.{◌≡◌, ◌∙◌, Some, sym, next, true}
use Rattle.wf_turn.specs.declared.stage.Asks.TheVariants as asks
use Rattle.wf_turn.proofs.AsksAreNextCalls.{handed_answers}
use Rattle.wf_turn.proofs.TurnOfAProgram.{free_now, waits_is, waits_now}
use Rattle.wf_turn.proofs.turning.answer_denied.Goals as goal

pub returns-then-waits : goal.returns-then-waits
returns-then-waits c =
    let p = c.args.program.now in
    let w = c.in-Some.wanted in
    let wants : next p ≡ Some w = sym c.next.ensures.wanted ∙ c.in-Some.is in
    waits_now c.args.machine.now p w wants (sym (waits_is c.args.machine.now p w wants) ∙ sym c.waits.ensures ∙ c.if-waits.true)

pub returns : goal.returns
returns c =
    let p = c.args.program.now in
    let w = c.in-Some.wanted in
    let wants : next p ≡ Some w = sym c.next.ensures.wanted ∙ c.in-Some.is in
    record {
      wanted = w;
      asks = free_now c.args.machine.now p w wants (sym (waits_is c.args.machine.now p w wants) ∙ sym c.waits.ensures ∙ c.if-waits.false);
      answers = handed_answers true c.args.client c.args.machine.now c.deny.new.machine w.call p c.deny.new.program asks.Nothing
          c.deny.result (rw c.next.ensures.issued at c.deny.ensures);
    }
