use Rattle.wf_core.proofs.composition.Core.element_above.Goals as goal

pub returns : goal.returns
returns c = rw (← c.self.view_is) (c.reply.ensures.stays _ _ c.try_element_above-done.ensures)
