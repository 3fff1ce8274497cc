use Rattle.wf_core.proofs.composition.Core.context_set.Goals as goal

pub returns : goal.returns
returns c = rw (← c.self.view_is) (c.reply.ensures.stays _ _ c.try_context_set-done.ensures)
