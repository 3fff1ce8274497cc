use Rattle.wf_serve.proofs.HeardSo.{heard_cut, heard_ok}
use Rattle.wf_serve.proofs.live.Core.hear.Goals as goal

pub returns-clause-heard : goal.returns-clause-heard
returns-clause-heard g c =
    heard_ok c.kind_of-kind.result c.args.client c.args.number c.args.body.now c.args.self.now c.kind_of-kind.ensures g.K.Sink.took
    c.args.frames.now c.hear_kind.new.frames c.hear_kind.new.self c.hear_kind.new.answers c.hear_kind.result c.hear_kind.ensures.heard

pub returns-clause-cut : goal.returns-clause-cut
returns-clause-cut g c =
    heard_cut c.kind_of-kind.result c.args.client c.args.number c.args.body.now c.args.self.now c.kind_of-kind.ensures g.K.Sink.took
    c.args.frames.now c.hear_kind.new.frames c.hear_kind.result c.hear_kind.ensures.cut
