use Rattle.wf_core.proofs.composition.Core.context_destroy.Goals as goal

pub returns : goal.returns
returns c = rw (← c.self.view_is) (c.reply.ensures.steps _ _ _ c.try_context_destroy-done.ensures)
