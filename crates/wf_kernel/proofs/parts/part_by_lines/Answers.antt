use Rattle.std.proofs.lemmas.List.Elements.{All-replicate}
use Rattle.wf_kernel.specs.Kept.{AreKept}
use Rattle.wf_kernel.proofs.parts.part_by_lines.Goals as goal

pub paint_part-requires-clause-kept : goal.paint_part-requires-clause-kept
paint_part-requires-clause-kept c =
    All-replicate (AreKept c.args.layers.now) 1 c.nothing_kept.result (c.nothing_kept.ensures c.args.layers.now)
