use Rattle.std.proofs.Math.Facts.{to_z-of_z}
use Rattle.wf_core.proofs.composition.Core.context_get.Goals as goal

pub returns : goal.returns
returns c = rw (← c.self.view_is) (c.reply.ensures.stays _ _ (rw (to_z-of_z c.ranges.index) at c.try_context_get-done.ensures))
