use Rattle.wf_turn.proofs.Common.{show_of}
use Rattle.wf_turn.proofs.TurnOfAShow.{fit_kept, none_allowed, none_now, one_kept, turned_kept}
use Rattle.wf_turn.proofs.show.Show.turn.Goals as goal

pub returns-then-not-may_turn : goal.returns-then-not-may_turn
returns-then-not-may_turn g = λ c.
    none_allowed (show_of c.self.inside) c.args.self.now c.self.view_is c.args.client c.requires.cast
    c.in_setup-was_setup.result c.may_turn.result c.in_setup-was_setup.ensures c.may_turn.ensures c.if-not-may_turn.true

pub take_turn-taken-requires-clause-fit : goal.take_turn-taken-requires-clause-fit
take_turn-taken-requires-clause-fit g = λ c.
    fit_kept (show_of c.self.inside) c.args.self.now c.self.view_is c.args.client c.requires.cast
    c.in_setup-was_setup.result c.may_turn.result c.in_setup-was_setup.ensures c.may_turn.ensures c.if-not-may_turn.false

pub returns-in-None : goal.returns-in-None
returns-in-None g = λ c.
    none_now (show_of c.self.inside) c.args.self.now c.self.view_is c.args.client c.requires.cast
    c.in_setup-was_setup.result c.may_turn.result c.in_setup-was_setup.ensures c.may_turn.ensures c.if-not-may_turn.false
    c.in-None.ensures

pub hand_on-requires : goal.hand_on-requires
hand_on-requires g = λ c.
    one_kept (show_of c.self.inside) c.args.self.now c.self.view_is c.args.client c.requires.cast
    c.in_setup-was_setup.result c.may_turn.result c.in_setup-was_setup.ensures c.may_turn.ensures c.if-not-may_turn.false
    _ c.take_turn-taken.new.machine c.take_turn-taken.new.self c.in-Some.taken.0 c.in-Some.taken.1 c.in-Some.ensures

pub returns-in-Some : goal.returns-in-Some
returns-in-Some g = λ c.
    turned_kept (show_of c.self.inside) c.args.self.now c.self.view_is c.args.client c.requires.cast
    c.in_setup-was_setup.result c.may_turn.result c.in_setup-was_setup.ensures c.may_turn.ensures c.if-not-may_turn.false
    _ c.take_turn-taken.new.machine c.take_turn-taken.new.self c.in-Some.taken.0 c.in-Some.taken.1 c.in-Some.ensures
    c.hand_on.new.self c.hand_on.ensures
