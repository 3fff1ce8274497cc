use Rattle.std.proofs.Common.{◌∙◌, ◌-◌, ◌<◌, length, sym, arith}
use Rattle.wf_serve.proofs.Banded.{bottom_found, from_bottom, row_fits}
use Rattle.wf_serve.proofs.bands.end_changed.Goals as goal

pub same_row-requires-clause-last : goal.same_row-requires-clause-last
same_row-requires-clause-last c =
    let more : c.args.count - c.loop-n.n - 1 < c.args.count = omega (arith, c.loop-n-test.true) in
    row_fits (c.args.count - c.loop-n.n - 1) c.args.count c.args.row (length c.args.last.now) more c.requires.last

pub same_row-requires-clause-next : goal.same_row-requires-clause-next
same_row-requires-clause-next c =
    let more : c.args.count - c.loop-n.n - 1 < c.args.count = omega (arith, c.loop-n-test.true) in
    row_fits (c.args.count - c.loop-n.n - 1) c.args.count c.args.row (length c.args.next.now) more c.requires.next

pub loop-n-preserved : goal.loop-n-preserved
loop-n-preserved c =
    c.loop-n.invariant
    ∙ from_bottom c.args.row c.args.count c.loop-n.n c.args.last.now c.args.next.now c.loop-n-test.true
    (sym c.same_row.ensures ∙ c.if-not-same_row.false)

pub returns-then-not-same_row-clause-end : goal.returns-then-not-same_row-clause-end
returns-then-not-same_row-clause-end c =
    sym (c.loop-n.invariant
    ∙ bottom_found c.args.row c.args.count c.loop-n.n c.args.last.now c.args.next.now c.loop-n-test.true
    (sym c.same_row.ensures ∙ c.if-not-same_row.true))
