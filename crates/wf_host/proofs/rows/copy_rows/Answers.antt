use Rattle.std.proofs.Common.{refl, ◌∙◌}
use Rattle.wf_host.proofs.RowsCopied.{more, none}
use Rattle.wf_host.proofs.rows.copy_rows.Goals as goal

pub loop-y-init : goal.loop-y-init
loop-y-init c = (none c.args.order c.args.to c.args.from c.args.row c.args.bytes.now c.args.out.now, refl)

pub loop-y-preserved : goal.loop-y-preserved
loop-y-preserved c = (
  more c.args.order c.args.to c.args.from c.args.row c.loop-y.y c.args.bytes.now c.args.out.now c.loop-y.out _ c.loop-y.invariant.0
      c.put_row.ensures.put,
  c.put_row.ensures.size ∙ c.loop-y.invariant.1,
)
