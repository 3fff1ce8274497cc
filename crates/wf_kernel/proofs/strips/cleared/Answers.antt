use Rattle.wf_kernel.specs.Prepared.{prepared_as}
use Rattle.wf_kernel.proofs.Cuts.{beside_left, beside_right, beside_above, beside_below}
use Rattle.std.proofs.Common.{◌-◌, arith}
use Rattle.wf_kernel.proofs.strips.cleared.Goals as goal

pub returns-then-columns-strip-clause-beside : goal.returns-then-columns-strip-clause-beside
returns-then-columns-strip-clause-beside c = λ y above below.
    let prepared = prepared_as c.layer.view_is c.layer.invariant in
    beside_right c.args.layer.now c.layer.inside.columns c.args.strip.first c.args.strip.width y prepared.columns_are (omega arith)

pub returns-then-strip-columns-clause-beside : goal.returns-then-strip-columns-clause-beside
returns-then-strip-columns-clause-beside c = λ y above below.
    let prepared = prepared_as c.layer.view_is c.layer.invariant in
    beside_left c.args.layer.now c.layer.inside.columns c.args.strip.first c.args.strip.width y prepared.columns_are (omega arith)

pub returns-then-rows-strip-clause-beside : goal.returns-then-rows-strip-clause-beside
returns-then-rows-strip-clause-beside c = λ y above below.
    let prepared = prepared_as c.layer.view_is c.layer.invariant in
    beside_below c.args.layer.now c.layer.inside.rows c.args.strip.first c.args.strip.width y prepared.rows_are (omega arith)

pub returns-then-strip-rows-clause-beside : goal.returns-then-strip-rows-clause-beside
returns-then-strip-rows-clause-beside c = λ y above below.
    let prepared = prepared_as c.layer.view_is c.layer.invariant in
    beside_above c.args.layer.now c.layer.inside.rows c.args.strip.first c.args.strip.width y prepared.rows_are (omega arith)

pub returns-then-layer-clause-beside : goal.returns-then-layer-clause-beside
returns-then-layer-clause-beside c = λ y above below.
    let prepared = prepared_as c.layer.view_is c.layer.invariant in
    beside_left c.args.layer.now c.layer.inside.columns c.args.strip.first (c.layer.inside.columns.start - c.args.strip.first) y
    prepared.columns_are (omega arith)
