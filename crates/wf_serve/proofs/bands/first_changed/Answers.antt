use Rattle.std.proofs.Common.{◌∙◌, length, sym}
use Rattle.wf_serve.proofs.Banded.{from_top, row_fits, top_found}
use Rattle.wf_serve.proofs.bands.first_changed.Goals as goal

pub same_row-requires-clause-last : goal.same_row-requires-clause-last
same_row-requires-clause-last c =
    row_fits c.loop-y.y c.args.count c.args.row (length c.args.last.now) c.loop-y-test.true c.requires.last

pub same_row-requires-clause-next : goal.same_row-requires-clause-next
same_row-requires-clause-next c =
    row_fits c.loop-y.y c.args.count c.args.row (length c.args.next.now) c.loop-y-test.true c.requires.next

pub loop-y-preserved : goal.loop-y-preserved
loop-y-preserved c =
    c.loop-y.invariant
    ∙ from_top c.args.row c.args.count c.loop-y.y c.args.last.now c.args.next.now c.loop-y-test.true
    (sym c.same_row.ensures ∙ c.if-not-same_row.false)

pub returns-then-not-same_row-clause-first : goal.returns-then-not-same_row-clause-first
returns-then-not-same_row-clause-first c =
    sym (c.loop-y.invariant
    ∙ top_found c.args.row c.args.count c.loop-y.y c.args.last.now c.args.next.now c.loop-y-test.true
    (sym c.same_row.ensures ∙ c.if-not-same_row.true))
