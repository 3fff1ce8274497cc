use Rattle.wf_turn.proofs.Common.{◌≡◌, ◌∙◌, next, issued}
use Rattle.wf_turn.specs.Asked.{as_wanted}
use Rattle.wf_turn.proofs.AsksAreNextCalls.{given_handed, wanted_is}
use Rattle.wf_turn.proofs.ProgramsGoOn.{goes_on, if_none, if_some, is_through, some_left, waiting_begins}
use Rattle.wf_turn.proofs.program.Program.next.Goals as goal

module _ (c : goal.After-wanted) where
  is : c.wanted.result ≡ next c.args.self.now
  is =
      c.wanted.ensures.wanted
      ∙ wanted_is c.args.self.now c.asks-asks.new.self c.asks-asks.result (as_wanted c.asks-asks.new.place) c.asks-asks.ensures.asked
      c.asks-asks.ensures.issued

  left : c.wanted.new.self ≡ issued c.args.self.now
  left = c.wanted.ensures.issued ∙ given_handed c.args.self.now c.asks-asks.new.self c.asks-asks.result c.asks-asks.ensures.issued
      c.asks-asks.ensures.end

pub returns-clause-wanted : goal.returns-clause-wanted
returns-clause-wanted c = is c

pub returns-clause-issued : goal.returns-clause-issued
returns-clause-issued c = left c

pub returns-clause-waits : goal.returns-clause-waits
returns-clause-waits c = if_some c.args.self.now _ (is c) (λ w asks. waiting_begins c.args.self.now w asks)

pub returns-clause-left : goal.returns-clause-left
returns-clause-left c = λ fit. if_some c.args.self.now _ (is c) (λ w asks. some_left c.args.self.now w fit asks)

pub returns-clause-goes_on : goal.returns-clause-goes_on
returns-clause-goes_on c = λ fit. if_some c.args.self.now _ (is c) (λ w asks. goes_on c.args.self.now w fit asks)

pub returns-clause-through : goal.returns-clause-through
returns-clause-through c = λ fit. if_none c.args.self.now _ (is c) (λ none. (is_through c.args.self.now fit none).through)

pub returns-clause-same : goal.returns-clause-same
returns-clause-same c = λ fit. if_none c.args.self.now _ (is c) (λ none. left c ∙ (is_through c.args.self.now fit none).same)
