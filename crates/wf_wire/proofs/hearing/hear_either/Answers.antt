use Rattle.wf_wire.specs.Asked.{wanted_call}
use Rattle.wf_wire.proofs.Heards.{heard_call, heard_quietly}
use Rattle.wf_wire.proofs.hearing.hear_either.Goals as goal

pub returns-in-Some-clause-heard : goal.returns-in-Some-clause-heard
returns-in-Some-clause-heard g c =
    heard_call g.K.Sink.took _ _ _ _ _ _ _ _ c.in-Some.ensures.held _ (wanted_call c.in-Some.wanted) c.in-Some.ensures.call
    c.hear_wanted.ensures.called

pub returns-in-None-clause-heard : goal.returns-in-None-clause-heard
returns-in-None-clause-heard g c =
    heard_quietly g.K.Sink.took _ _ _ c.args.pass.now _ _ _ _ c.in-None.ensures.held _ c.requires.own c.in-None.ensures.call
    c.hear_quietly.ensures.held c.hear_quietly.ensures.writes c.hear_quietly.ensures.few
