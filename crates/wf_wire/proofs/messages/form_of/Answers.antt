use Rattle.std.proofs.Common.{◌∙◌}
use Rattle.wf_wire.proofs.Firsts.{form_at}
use Rattle.wf_wire.proofs.messages.form_of.Goals as goal

pub returns : goal.returns
returns c = c.form_at.ensures ∙ form_at c.args.number _ c.from.ensures c.if-number-eq0.false
