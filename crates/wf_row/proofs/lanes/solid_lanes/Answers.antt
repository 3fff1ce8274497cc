use Rattle.std.proofs.Common.{sym, subst}
use Rattle.wf_row.specs.Bytes.{AreBytes}
use Rattle.wf_row.proofs.Words.{solid_are, solid-Bytes}
use Rattle.wf_row.proofs.lanes.solid_lanes.Goals as goal

pub returns-clause-value : goal.returns-clause-value
returns-clause-value c = solid_are 8 c.args.x c.requires.count c.requires.below

pub returns-clause-bytes : goal.returns-clause-bytes
returns-clause-bytes c =
    subst (AreBytes 16) (sym (solid_are 8 c.args.x c.requires.count c.requires.below)) (solid-Bytes 8 c.args.x c.requires)
