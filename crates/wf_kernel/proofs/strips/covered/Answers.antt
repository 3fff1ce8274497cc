use Rattle.std.proofs.Common.{arith}
use Rattle.wf_kernel.specs.Prepared.{prepared_as}
use Rattle.wf_kernel.proofs.Covers.{cover_in}
use Rattle.wf_kernel.proofs.strips.covered.Goals as goal

pub returns-clause-cover : goal.returns-clause-cover
returns-clause-cover c = λ y above below.
    let prepared = prepared_as c.layer.view_is c.layer.invariant in
    cover_in c.args.layer.now c.layer.inside.columns c.layer.inside.rows c.args.strip.first c.min.result y
    (prepared.hides_below c.if-not-layer.false) prepared.columns_are prepared.rows_are
    (omega arith) (omega arith) (omega arith) (omega arith)
