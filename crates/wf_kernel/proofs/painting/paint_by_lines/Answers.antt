use Rattle.std.proofs.lemmas.List.Elements.{All-replicate}
use Rattle.wf_kernel.specs.Kept.{AreKept}
use Rattle.wf_kernel.proofs.painting.paint_by_lines.Goals as goal

pub paint_rows-requires-clause-kept : goal.paint_rows-requires-clause-kept
paint_rows-requires-clause-kept c =
    All-replicate (AreKept c.args.layers.now) 1 c.nothing_kept.result (c.nothing_kept.ensures c.args.layers.now)
