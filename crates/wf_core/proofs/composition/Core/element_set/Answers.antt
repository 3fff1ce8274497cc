use Rattle.wf_core.proofs.composition.Core.element_set.Goals as goal

pub returns : goal.returns
returns c = rw (← c.self.view_is) (c.reply.ensures.stays _ _ c.try_element_set-done.ensures)
