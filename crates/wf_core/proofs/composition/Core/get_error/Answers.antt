use Rattle.wf_core.proofs.composition.Core.get_error.Goals as goal

pub returns : goal.returns
returns c = rw (← c.self.view_is) (c.reply.ensures.stays _ _ c.take_error-done.ensures)
