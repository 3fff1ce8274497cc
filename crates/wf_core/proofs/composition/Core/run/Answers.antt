use Rattle.wf_core.proofs.composition.Core.run.Goals as goal

pub returns : goal.returns
returns c = rw (← c.device.ensures, ← c.self.view_is) (c.answer.ensures.steps _ _ _ c.carry_out-done.ensures)
