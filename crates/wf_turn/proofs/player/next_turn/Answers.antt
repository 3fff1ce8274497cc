use Rattle.wf_turn.proofs.FirstTurns.{has_turn, turned_first}
use Rattle.wf_turn.proofs.player.next_turn.Goals as goal

pub returns : goal.returns
returns g = λ c.
    turned_first c.args.show.now c.args.client c.requires.cast c.requires.alone c.requires.first c.requires.allowed
    c.turn.new.self c.in-Some.taken.0 c.in-Some.taken.1 c.in-Some.ensures

pub unreachable-requires : goal.unreachable-requires
unreachable-requires g = λ c.
    has_turn c.args.show.now c.args.client c.requires.cast c.requires.alone c.requires.first c.requires.allowed c.in-None.ensures
