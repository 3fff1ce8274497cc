use Rattle.wf_turn.proofs.Common.{ap}
use Rattle.wf_turn.proofs.FirstLine.{learns}
use Rattle.wf_turn.proofs.program.Program.learn.Goals as goal

pub returns-clause-taught : goal.returns-clause-taught
returns-clause-taught c =
    learns c.self.inside c.clock.inside _ _ _ _ c.self.invariant
    c.clock.invariant c.self.view_is c.clock.view_is c.requires.script c.requires.clock
    (ap (λ t. t.names) c.learn.ensures) (ap (λ t. t.values) c.learn.ensures)
