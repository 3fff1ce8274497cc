use Rattle.wf_turn.proofs.Common.{◌∙◌, sym}
use Rattle.wf_turn.specs.Asked.{as_wanted}
use Rattle.wf_turn.proofs.AsksAreNextCalls.{asked_answers, begins_asked, ends_asked, not_nothing, not_waiting, some_next, stuck_now}
use Rattle.wf_turn.proofs.AsksAreNextCalls.{wanted_of}
use Rattle.wf_turn.proofs.TurnOfAProgram.{free_now}
use Rattle.wf_turn.proofs.turning.answer_asked.Goals as goal

pub returns-then-is_stuck : goal.returns-then-is_stuck
returns-then-is_stuck c =
    stuck_now c.args.program.now c.asks-asks.new.self c.asks-asks.result (as_wanted c.asks-asks.new.place)
    c.asks-asks.ensures.asked c.asks-asks.ensures.issued
    c.args.machine.now (sym c.is_stuck.ensures ∙ c.if-is_stuck.true)

pub take_asked-requires-clause-some : goal.take_asked-requires-clause-some
take_asked-requires-clause-some c =
    not_nothing c.args.program.now c.asks-asks.new.self c.asks-asks.result (as_wanted c.asks-asks.new.place)
    c.asks-asks.ensures.asked c.asks-asks.ensures.issued
    c.args.machine.now (sym c.is_stuck.ensures ∙ c.if-is_stuck.false)

pub take_asked-requires-clause-begins : goal.take_asked-requires-clause-begins
take_asked-requires-clause-begins c =
    begins_asked c.args.program.now c.asks-asks.new.self c.asks-asks.result (as_wanted c.asks-asks.new.place)
    c.asks-asks.ensures.asked c.asks-asks.ensures.issued

pub take_asked-requires-clause-ends : goal.take_asked-requires-clause-ends
take_asked-requires-clause-ends c =
    ends_asked c.args.program.now c.asks-asks.new.self c.asks-asks.result (as_wanted c.asks-asks.new.place)
    c.asks-asks.ensures.asked c.asks-asks.ensures.issued
    c.requires c.asks-asks.ensures.end

pub returns : goal.returns
returns c =
    let a = c.args in
    let p = a.program.now in
    let free = sym c.is_stuck.ensures ∙ c.if-is_stuck.false in
    let some = some_next p c.asks-asks.new.self c.asks-asks.result (as_wanted c.asks-asks.new.place)
    c.asks-asks.ensures.asked c.asks-asks.ensures.issued a.machine.now free
    c.requires c.asks-asks.ensures.end in
    let w = wanted_of p some in
    record {
      wanted = w.0;
      asks = free_now a.machine.now p w.0 w.1
          (not_waiting p c.asks-asks.new.self c.asks-asks.result (as_wanted c.asks-asks.new.place)
          c.asks-asks.ensures.asked c.asks-asks.ensures.issued a.machine.now w.0 free w.1);
      answers = asked_answers p c.asks-asks.new.self c.asks-asks.result (as_wanted c.asks-asks.new.place)
          c.asks-asks.ensures.asked c.asks-asks.ensures.issued _ a.client a.machine.now
          c.take_asked.new.machine c.take_asked.new.program c.take_asked.result w.0 w.1 c.take_asked.ensures;
    }
