use Rattle.wf_core.proofs.composition.Core.mask_new.Goals as goal

pub returns : goal.returns
returns c = rw (← c.self.view_is) (c.reply.ensures.steps _ _ _ c.try_link_new-done.ensures)
