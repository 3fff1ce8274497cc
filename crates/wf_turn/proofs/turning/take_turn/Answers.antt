use Rattle.wf_turn.proofs.TurnOfAProgram.{takes, work_now}
use Rattle.wf_turn.proofs.turning.take_turn.Goals as goal

pub paint-requires-clause-work : goal.paint-requires-clause-work
paint-requires-clause-work g = λ c. work_now _ _ _ _ _ _ _ c.requires.fit c.in-Some.ensures

pub returns-in-Some : goal.returns-in-Some
returns-in-Some g = λ c.
    rw (c.paint.ensures.painted, c.paint.ensures.was) (takes _ _ _ _ _ _ _ c.requires.fit c.in-Some.ensures)
