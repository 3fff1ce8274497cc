use Rattle.std.proofs.Common.{sym, subst}
use Rattle.wf_row.specs.Bytes.{AreBytes}
use Rattle.wf_row.proofs.Words.{seconds_are, seconds-Bytes}
use Rattle.wf_row.proofs.lanes.second_lanes.Goals as goal

pub returns-clause-value : goal.returns-clause-value
returns-clause-value c = seconds_are c.args.x c.requires.count

pub returns-clause-bytes : goal.returns-clause-bytes
returns-clause-bytes c =
    subst (AreBytes 16) (sym (seconds_are c.args.x c.requires.count)) (seconds-Bytes 8 c.args.x c.requires)
