use Rattle.wf_play.proofs.Sessions.{after_header}
use Rattle.wf_play.proofs.served.play_session.Goals as goal

pub returns-in-Ok-clause-input : goal.returns-in-Ok-clause-input
returns-in-Ok-clause-input g c =
    after_header _ _ (g.I.Source.left c.open.new.input) c.in-Ok.session c.in-Ok.ports c.in-Ok.ensures.header
    (λ bytes rest is opened. c.serve_ports.ensures.says bytes rest is opened)
