use Rattle.std.proofs.Common.{sym, subst}
use Rattle.wf_row.specs.Bytes.{AreBytes}
use Rattle.wf_row.proofs.Words.{sum_zip, sum-Bytes}
use Rattle.wf_row.proofs.lanes.sum_lanes.Goals as goal

pub returns-clause-value : goal.returns-clause-value
returns-clause-value c = sum_zip c.args.x c.args.y c.requires.x.below c.requires.y.below

pub returns-clause-bytes : goal.returns-clause-bytes
returns-clause-bytes c =
    subst (AreBytes 32) (sym (sum_zip c.args.x c.args.y c.requires.x.below c.requires.y.below))
    (sum-Bytes 32 c.args.x c.args.y c.requires.x c.requires.y)
