use Rattle.std.proofs.Common.{sym, subst}
use Rattle.wf_row.specs.Bytes.{AreBytes}
use Rattle.wf_row.proofs.Words.{highs_are, highs-Bytes}
use Rattle.wf_row.proofs.lanes.high_lanes.Goals as goal

pub returns-clause-value : goal.returns-clause-value
returns-clause-value c = highs_are 16 c.args.x c.requires.count c.requires.below

pub returns-clause-bytes : goal.returns-clause-bytes
returns-clause-bytes c =
    subst (AreBytes 16) (sym (highs_are 16 c.args.x c.requires.count c.requires.below)) (highs-Bytes 16 c.args.x c.requires)
