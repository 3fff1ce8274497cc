use Rattle.std.proofs.Common.{sym, subst}
use Rattle.wf_row.specs.Bytes.{AreBytes}
use Rattle.wf_row.proofs.Words.{twice_are, twice-Bytes}
use Rattle.wf_row.proofs.lanes.twice_lanes.Goals as goal

pub returns-clause-value : goal.returns-clause-value
returns-clause-value c = twice_are c.args.x c.requires.count

pub returns-clause-bytes : goal.returns-clause-bytes
returns-clause-bytes c =
    subst (AreBytes 16) (sym (twice_are c.args.x c.requires.count)) (twice-Bytes 8 c.args.x c.requires)
