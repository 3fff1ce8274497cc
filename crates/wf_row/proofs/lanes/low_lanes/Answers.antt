use Rattle.std.proofs.Common.{sym, subst}
use Rattle.wf_row.specs.Bytes.{AreBytes}
use Rattle.wf_row.proofs.Words.{lows_are, lows-Bytes}
use Rattle.wf_row.proofs.lanes.low_lanes.Goals as goal

pub returns-clause-value : goal.returns-clause-value
returns-clause-value c = lows_are 16 c.args.x c.requires.count c.requires.below

pub returns-clause-bytes : goal.returns-clause-bytes
returns-clause-bytes c =
    subst (AreBytes 16) (sym (lows_are 16 c.args.x c.requires.count c.requires.below)) (lows-Bytes 16 c.args.x c.requires)
