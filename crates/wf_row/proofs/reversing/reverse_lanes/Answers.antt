use Rattle.wf_row.proofs.Reversals.{each_reversed, reversed_are, reversed_count}
use Rattle.wf_row.specs.Bytes.{AreBytes}
use Rattle.std.proofs.Common.{◌<◌, subst, sym}
use Rattle.wf_row.proofs.reversing.reverse_lanes.Goals as goal

pub returns-clause-value : goal.returns-clause-value
returns-clause-value c = reversed_are c.args.x c.requires.count

pub returns-clause-bytes : goal.returns-clause-bytes
returns-clause-bytes c =
    subst (AreBytes 16) (sym (reversed_are c.args.x c.requires.count))
    (record { count = reversed_count 4 c.args.x c.requires.count; below = each_reversed (λ x. x < 256) c.args.x c.requires.below })
