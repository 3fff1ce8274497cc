use Rattle.std.proofs.Common.{ap, ◌∙◌}
use Rattle.wf_desk.proofs.Events.{home_back}
use Rattle.wf_desk.proofs.board.Board.make_when.Goals as goal

pub leave-requires-clause-home : goal.leave-requires-clause-home
leave-requires-clause-home g c κs within =
    home_back g.O.Object.after g.O.Object.may g.O.Object.entry_of _ _ _ _
    (ap (λ m. m.0) c.put.ensures.put) (ap (λ m. m.1) c.put.ensures.put) c.enter-home.ensures.finds

pub enter-home-requires-clause-key : goal.enter-home-requires-clause-key
enter-home-requires-clause-key g c κs within = let key = c.requires.key in (key.0, ap (λ m. m.0.key) c.loop.invariant.2 ∙ key.1)
