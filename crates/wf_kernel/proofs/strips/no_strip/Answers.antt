use Rattle.std.proofs.Common.{refl}
use Rattle.wf_kernel.proofs.Cuts.{no_rows}
use Rattle.wf_kernel.proofs.strips.no_strip.Goals as goal

pub returns : goal.returns
returns c = λ layers w. no_rows layers w _ refl refl refl refl refl
