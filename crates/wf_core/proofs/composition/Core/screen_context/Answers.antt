use Rattle.std.proofs.Math.Facts.{to_z-of_z}
use Rattle.wf_core.proofs.composition.Core.screen_context.Goals as goal

pub returns : goal.returns
returns c = rw (← c.self.view_is) (c.reply.ensures.steps _ _ _ (rw (to_z-of_z c.ranges.port) at c.try_screen_context-done.ensures))
