use Rattle.std.proofs.Common.{◌∙◌, sym}
use Rattle.wf_serve.proofs.Hearings.{tick_cut, tick_heard}
use Rattle.wf_serve.proofs.live.Core.tick.Goals as goal

pub returns-then-is_empty-clause-heard : goal.returns-then-is_empty-clause-heard
returns-then-is_empty-clause-heard g c =
    tick_heard g.K.Sink.took c.args.frames.now c.tick_all.new.frames c.args.client c.args.body.now c.args.self.now c.tick_all.new.self
    c.tick_all.new.answers (sym c.is_empty.ensures ∙ c.if-is_empty.true) c.tick_all.result c.tick_all.ensures.now
    c.tick_all.ensures.answers c.tick_all.ensures.writes

pub returns-then-is_empty-clause-cut : goal.returns-then-is_empty-clause-cut
returns-then-is_empty-clause-cut g c =
    tick_cut g.K.Sink.took c.args.frames.now c.tick_all.new.frames c.args.client c.args.body.now c.args.self.now c.tick_all.new.self
    c.tick_all.new.answers (sym c.is_empty.ensures ∙ c.if-is_empty.true) c.tick_all.result c.tick_all.ensures.writes
