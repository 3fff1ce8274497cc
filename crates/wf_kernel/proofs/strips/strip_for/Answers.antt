use Rattle.std.proofs.lemmas.List.Elements.{All-set}
use Rattle.wf_kernel.specs.Strips.{IsStrip}
use Rattle.wf_kernel.proofs.strips.strip_for.Goals as goal

pub returns-then-k-strips-clause-strips : goal.returns-then-k-strips-clause-strips
returns-then-k-strips-clause-strips c = All-set (IsStrip c.args.layers.now c.args.width) c.args.strips.now c.args.k c.strip_at-strip.result
    c.strip_at-strip.ensures.strip c.requires.strips
