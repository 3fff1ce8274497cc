use Rattle.std.proofs.lemmas.List.Elements.{All-set}
use Rattle.wf_kernel.specs.Strips.{IsStrip}
use Rattle.wf_kernel.proofs.strips.find_first.Goals as goal

pub returns : goal.returns
returns c = All-set (IsStrip c.args.layers.now c.args.width) c.args.strips.now 0 c.strip_at.result c.strip_at.ensures.strip
    c.requires.strips
