use Rattle.std.proofs.Common.{sym, subst, arith}
use Rattle.wf_row.specs.Bytes.{AreBytes}
use Rattle.wf_row.proofs.Words.{joined_are, joined-Bytes}
use Rattle.wf_row.proofs.lanes.joined_lanes.Goals as goal

pub returns-clause-value : goal.returns-clause-value
returns-clause-value c = joined_are 16 32 c.args.low c.args.high c.requires.low.count c.requires.high.count (omega arith)
    c.requires.low.below c.requires.high.below

pub returns-clause-bytes : goal.returns-clause-bytes
returns-clause-bytes c =
    subst (AreBytes 32)
    (sym (joined_are 16 32 c.args.low c.args.high c.requires.low.count c.requires.high.count (omega arith) c.requires.low.below
    c.requires.high.below)) (joined-Bytes 16 c.args.low c.args.high c.requires.low c.requires.high)
