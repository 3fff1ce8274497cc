use Rattle.std.proofs.Common.{sym, subst}
use Rattle.wf_row.specs.Bytes.{AreBytes}
use Rattle.wf_row.proofs.Words.{mul_zip, mul-Bytes}
use Rattle.wf_row.proofs.lanes.mul_lanes.Goals as goal

pub returns-clause-value : goal.returns-clause-value
returns-clause-value c = mul_zip 16 c.args.x c.args.q c.requires.x.count c.requires.x.below c.requires.q.below

pub returns-clause-bytes : goal.returns-clause-bytes
returns-clause-bytes c =
    subst (AreBytes 16) (sym (mul_zip 16 c.args.x c.args.q c.requires.x.count c.requires.x.below c.requires.q.below))
    (mul-Bytes 16 c.args.x c.args.q c.requires.x c.requires.q)
