use Rattle.std.proofs.Common.{refl, arith}
use Rattle.wf_kernel.proofs.Stretches.{columns_empty, rows_before, rows_behind, stretch_is}
use Rattle.wf_kernel.specs.Prepared.{prepared_as}
use Rattle.wf_kernel.proofs.stretch.stretch_of.Goals as goal

pub returns-then-end-start-clause-none : goal.returns-then-end-start-clause-none
returns-then-end-start-clause-none c =
    let prepared = prepared_as c.layer.view_is c.layer.invariant in
    columns_empty c.args.layer.now c.layer.inside.columns c.args.first c.args.width c.args.y prepared.columns_are (λ j a b d. omega arith)

pub returns-then-y-rows-clause-none : goal.returns-then-y-rows-clause-none
returns-then-y-rows-clause-none c = λ j low.
    let prepared = prepared_as c.layer.view_is c.layer.invariant in
    rows_before c.args.layer.now c.layer.inside.rows c.args.first c.args.y prepared.rows_are c.if-y-rows.true j

pub returns-then-rows-y-clause-none : goal.returns-then-rows-y-clause-none
returns-then-rows-y-clause-none c = λ j low.
    let prepared = prepared_as c.layer.view_is c.layer.invariant in
    rows_behind c.args.layer.now c.layer.inside.rows c.args.first c.args.y prepared.rows_are c.if-rows-y.true j

pub returns-clause-some : goal.returns-clause-some
returns-clause-some c =
    let prepared = prepared_as c.layer.view_is c.layer.invariant in
    stretch_is c.args.layer.now c.layer.inside.columns c.layer.inside.rows c.args.first c.args.width c.args.y c.max-start.result
    c.min-end.result _ prepared.columns_are prepared.rows_are
    (omega arith) (omega arith) (omega arith) (omega arith) (omega arith) (omega arith) (λ j a b. omega arith) (λ j a b. omega arith)
    (omega arith) (omega arith) refl refl refl refl refl
