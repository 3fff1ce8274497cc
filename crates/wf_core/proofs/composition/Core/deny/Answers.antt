use Rattle.wf_core.proofs.composition.Core.deny.Goals as goal

pub returns : goal.returns
returns c = rw (← c.device.ensures, ← c.self.view_is) (c.reply.ensures.stays _ _ c.deny-denied.ensures)
