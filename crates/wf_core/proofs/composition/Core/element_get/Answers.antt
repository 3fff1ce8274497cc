use Rattle.std.proofs.Math.Facts.{to_z-of_z}
use Rattle.wf_core.proofs.composition.Core.element_get.Goals as goal

pub returns : goal.returns
returns c = rw (← c.self.view_is) (c.reply.ensures.stays _ _ (rw (to_z-of_z c.ranges.index) at c.try_element_get-done.ensures))
